-- Request E5: the kept bytes of a view cover everything that a reader of its edition looks at, and are at most 4,096. Assumes nothing.
use Prim.Native.Nat.{ℕ, zero, suc, ◌+◌, ◌-◌, ◌%◌, ◌≤◌, ◌<◌, min, max}
use mathlib.Core.Path.{◌≡◌, refl, sym, ap, ◌∙◌}
use mathlib.Core.Bool.{Bool, true, false, cond}
use mathlib.Core.Logic.{◌⊎◌, inl, inr}
use mathlib.Core.List.{List}
use native.Mathlib.Nat.{mul-zero}
use native.Mathlib.Omega.{arith}
use lib.ListN.{length, drop, length-drop}
use lib.Dec.{leb, ltb, eqb}
use borrow.Author.Tests.{leb-true, ltb-true, ltb-false, eqb-true, eqb-false, eq-eqb, ne_eqb}
use Rattle.words.specs.Tests.{Yes}
use Rattle.words.specs.Word.{word_at, no_span, span_at}
use Rattle.words.specs.declared.Span.{Span}
use Rattle.words.proofs.Tests.{both_l, both_r}
use Rattle.versions.specs.Version.{minor_of}
use Rattle.versions.specs.Edition.{section_count, core}
use Rattle.versions.proofs.Editions.{section-count-most}
use Rattle.entries.specs.Entry.{size}
use Rattle.fields.specs.Fields.{Scanned, broken, ended, bare, is_ended, taken, reach, scan_of}
use Rattle.fields.specs.Steps.{end_told}
use Rattle.std.proofs.Common.{Some, None}
use Rattle.fields.proofs.Scans.{never}
use Rattle.fields.proofs.Same.{taken-room}
use Rattle.sections.specs.Page.{place_ok, version_at, count_at, pointer_at, in_page, found_at}
use Rattle.sections.proofs.Sections.{placed}
use Rattle.reader.specs.Answer.{named}
use Rattle.reader.specs.Gaps.{BesideArray, BesideFields}
use Rattle.reader.specs.Reading.{section_of, section_at, view_at}
use Rattle.reader.specs.declared.Section.{Section}
use Rattle.reader.specs.declared.Section.TheVariants.{Absent, Empty, Entries}
use Rattle.reader.specs.declared.View.{View}
use Rattle.reader.proofs.Gaps.{ended-taken, others-unnamed}
use Rattle.reader.proofs.Whole.{section-entries}
use Rattle.lookup.specs.Lookup.{span_of}
use Rattle.manifest_extent.specs.Kept.{span_end, section_end, highest_of, fields_reach, kept_for}
use Rattle.lookup.proofs.Lookups.{place-in}

-- ---- at most 4,096
none_end : span_end no_span ≡ 0
unfolding span_end no_span
none_end = refl

at-end : (b : Bool) (at n : ℕ) → at + n ≤ 4096 → span_end (cond b no_span (record { at = at; len = n })) ≤ 4096
unfolding span_end no_span
at-end true at n h = omega arith
at-end false at n h = h

fits-end : (b : Bool) (at n : ℕ) → leb (at + n) 4096 ≡ b → span_end (cond b (span_at at n) no_span) ≤ 4096
unfolding span_at
fits-end true at n h = at-end (eqb n 0) at n (leb-true (at + n) 4096 h)
fits-end false at n h = omega (arith, none_end)

pub end-most : (k : ℕ) (s : Section) → section_end k s ≤ 4096
unfolding section_end span_of
end-most k Absent = omega (arith, none_end)
end-most k Empty = omega (arith, none_end)
end-most k (Entries at count) = fits-end (leb (at + size k count) 4096) at (size k count) refl

pub span_fits : (p : Span) (k : ℕ) (s : Section) → p ≡ span_of k s 4096 → p.at + p.len ≤ 4096
unfolding section_end span_end
span_fits p k s e = rw e (end-most k s)

reach-case : (b : Bool) (n : ℕ) → cond b 0 (min 4096 n) ≤ 4096
reach-case true n = omega arith
reach-case false n = omega arith

pub reach-most : (q : ℕ) (page : List ℕ) → fields_reach q page ≤ 4096
unfolding fields_reach
reach-most q page = reach-case (eqb q 0) (q % 4096 + reach (scan_of (drop (q % 4096) page)))

pub highest-most : (v : View) (page : List ℕ) (n : ℕ) → highest_of v page n ≤ 4096
unfolding highest_of core
highest-most v page zero = omega (arith, section-count-most v.edition, reach-most v.plat page)
highest-most v page (suc n) = omega (arith, highest-most v page n, end-most n (section_of v n))

pub kept-most : (v : View) (page : List ℕ) → kept_for v page ≤ 4096
unfolding kept_for
kept-most v page = omega (arith, highest-most v page 4)

-- ---- where the fields end, given the result of the pass over them
told-broken : (s : Scanned) → end_told s ≡ None → reach s ≡ 4096
unfolding end_told reach
told-broken broken h = refl
told-broken (ended fs n) h = never (cc)
told-broken (bare fs) h = refl

told-ended : (s : Scanned) (n : ℕ) → end_told s ≡ Some n → reach s ≡ n
unfolding end_told reach
told-ended broken n h = never (cc)
told-ended (ended fs m) n h = cc
told-ended (bare fs) n h = never (cc)

module _ (q : ℕ) (page : List ℕ) where
  pub reach-none : q ≡ 0 → 0 ≡ fields_reach q page
  unfolding fields_reach
  reach-none z = rw (eq-eqb q 0 z)

  module _ (z : q ≡ 0 → ⊥) where
    pub reach-there : fields_reach q page ≡ min 4096 (q % 4096 + reach (scan_of (drop (q % 4096) page)))
    unfolding fields_reach
    reach-there = rw (ne_eqb q 0 z)

    pub reach-broken : end_told (scan_of (drop (q % 4096) page)) ≡ None → 4096 ≡ fields_reach q page
    reach-broken h = rw (reach-there, told-broken (scan_of (drop (q % 4096) page)) h) (omega arith)

    pub reach-past : (n : ℕ) → end_told (scan_of (drop (q % 4096) page)) ≡ Some n → 4096 - q % 4096 < n → 4096 ≡ fields_reach q page
    reach-past n h l = rw (reach-there, told-ended (scan_of (drop (q % 4096) page)) n h) (omega arith)

    pub reach-ended : (n : ℕ) → end_told (scan_of (drop (q % 4096) page)) ≡ Some n → n ≤ 4096 - q % 4096 → q % 4096 + n ≡ fields_reach q page
    reach-ended n h l = rw (reach-there, told-ended (scan_of (drop (q % 4096) page)) n h) (omega arith)

-- ---- the kept bytes cover what a reader looks at
module _ (v : View) (page : List ℕ) where
  start-within : (n : ℕ) → max (core v.edition) (fields_reach v.plat page) ≤ highest_of v page n
  unfolding highest_of
  start-within zero = omega arith
  start-within (suc n) = omega (arith, start-within n)

  step-within : (n k : ℕ) (b : Bool) → eqb k n ≡ b → k < suc n → (k < n → section_end k (section_of v k) ≤ highest_of v page n) →
      section_end k (section_of v k) ≤ highest_of v page (suc n)
  unfolding highest_of
  step-within n k true e h f = rw (eqb-true k n e) (omega arith)
  step-within n k false e h f = let l : k < n = omega (arith, eqb-false k n e) in omega (arith, f l)

  end-within : (n k : ℕ) → k < n → section_end k (section_of v k) ≤ highest_of v page n
  end-within zero k h = absurd (omega arith)
  end-within (suc n) k h = step-within n k (eqb k n) refl h (end-within n k)

pub section-is : (w e base : ℕ) (page : List ℕ) (k : ℕ) → k < 4 → section_of (view_at w e base page) k ≡ section_at e base page k
unfolding section_of view_at
section-is w e base page zero h = refl
section-is w e base page (suc zero) h = refl
section-is w e base page (suc (suc zero)) h = refl
section-is w e base page (suc (suc (suc zero))) h = refl
section-is w e base page (suc (suc (suc (suc k)))) h = absurd (omega arith)

size_none : (k count : ℕ) → count ≡ 0 → size k count ≡ 0
unfolding size
size_none k count h = rw (h, mul-zero)

-- where an array of the edition ends, if it is within the page
pub array-end : (e base : ℕ) (page : List ℕ) (k : ℕ) → k < section_count e → (size k (count_at k page) ≡ 0 → ⊥) →
    in_page base (pointer_at k page) (size k (count_at k page)) ≡ true →
    base + section_end k (section_at e base page k) ≡ pointer_at k page + size k (count_at k page)
unfolding section_end span_end span_at in_page
array-end e base page k h n p =
    let a : base ≤ pointer_at k page = leb-true _ _ (both_l _ _ p) in
    let b : pointer_at k page + size k (count_at k page) ≤ base + 4096 = leb-true _ _ (both_r _ _ p) in
    let t = section-entries e base k page h (λ c. n (size_none k (count_at k page) c)) in
    rw (← t, place-in k (pointer_at k page - base) (count_at k page) 4096 (omega arith), ne_eqb (size k (count_at k page)) 0 n) (omega arith)

beside-by : (e base : ℕ) (page : List ℕ) (i k : ℕ) (z p l : Bool) → eqb (size k (count_at k page)) 0 ≡ z →
    in_page base (pointer_at k page) (size k (count_at k page)) ≡ p → ltb (base + i) (pointer_at k page) ≡ l →
    k < section_count e → section_end k (section_at e base page k) ≤ i → BesideArray base page i k
beside-by e base page i k z p true a b c h m = inl (ltb-true _ _ c)
beside-by e base page i k true p false a b c h m =
    inr (inl (let x : size k (count_at k page) ≡ 0 = eqb-true _ _ a in let y : pointer_at k page ≤ base + i = ltb-false _ _ c in omega arith))
beside-by e base page i k false false false a b c h m = inr (inr b)
beside-by e base page i k false true false a b c h m = inr (inl (let x = array-end e base page k h (eqb-false _ _ a) b in omega arith))

beside : (e base : ℕ) (page : List ℕ) (i k : ℕ) → k < section_count e → section_end k (section_at e base page k) ≤ i →
    BesideArray base page i k
beside e base page i k = beside-by e base page i k _ _ _ refl refl refl

-- ---- the fields at a pointer into the page
found_none : (base q : ℕ) (page : List ℕ) → q ≡ 0 → q + reach (found_at base page q) ≡ 0
unfolding found_at reach
found_none base q page z = rw (eq-eqb q 0 z) (omega arith)

pub found-there : (base q : ℕ) (page : List ℕ) → base % 4096 ≡ 0 → (q ≡ 0 → ⊥) → in_page base q 1 ≡ true →
    (q ≡ base + q % 4096) × (found_at base page q ≡ scan_of (drop (q % 4096) page))
unfolding found_at in_page
found-there base q page m z p =
    let a : base ≤ q = leb-true _ _ (both_l _ _ p) in
    let b : q + 1 ≤ base + 4096 = leb-true _ _ (both_r _ _ p) in
    let x : q - base ≡ q % 4096 = omega arith in
    (omega arith, rw (ne_eqb q 0 z, p, x))

-- where they end, if they are not broken
pub fields-end : (base q : ℕ) (page : List ℕ) → base % 4096 ≡ 0 → length page ≡ 4096 → (q ≡ 0 → ⊥) → in_page base q 1 ≡ true →
    is_ended (found_at base page q) ≡ true →
    base + fields_reach q page ≡ q + reach (found_at base page q)
fields-end base q page m l z p o =
    let f = found-there base q page m z p in
    let s : Scanned = scan_of (drop (q % 4096) page) in
    let x : reach s ≡ taken s = ended-taken s (ap is_ended (sym f.1) ∙ o) in
    let r : taken s ≤ length (drop (q % 4096) page) = taken-room (drop (q % 4096) page) in
    rw (f.1, reach-there q page z) (omega (arith, f.0, length-drop (q % 4096) page))

fields-by : (base q : ℕ) (page : List ℕ) (i : ℕ) (z p : Bool) → eqb q 0 ≡ z → in_page base q 1 ≡ p → base % 4096 ≡ 0 → length page ≡ 4096 →
    is_ended (found_at base page q) ≡ true → fields_reach q page ≤ i →
    (base + i < q) ⊎ (((is_ended (found_at base page q) ≡ true) × (q + taken (found_at base page q) ≤ base + i)) ⊎ (in_page base q 1 ≡ false))
fields-by base q page i true p a b m l o h =
    inr (inl (o, let x = found_none base q page (eqb-true _ _ a) in let t = ended-taken (found_at base page q) o in omega arith))
fields-by base q page i false false a b m l o h = inr (inr b)
fields-by base q page i false true a b m l o h =
    inr (inl (o, let x = fields-end base q page m l (eqb-false _ _ a) b o in let t = ended-taken (found_at base page q) o in omega arith))

fields-beside : (base : ℕ) (page : List ℕ) (i : ℕ) → base % 4096 ≡ 0 → length page ≡ 4096 →
    is_ended (found_at base page (word_at 8 page)) ≡ true → fields_reach (word_at 8 page) page ≤ i → BesideFields base page i
fields-beside base page i = fields-by base (word_at 8 page) page i _ _ refl refl

-- No byte from K on is named, for a reader of any edition, where K is computed from the view that this reader makes of the page. The page
-- has a good base and length, and either no pointer or fields that are not broken.
pub kept-covers : (r base : ℕ) (page : List ℕ) → Yes (place_ok base (length page)) → is_ended (found_at base page (word_at 8 page)) ≡ true →
    (i : ℕ) →
    kept_for (view_at (minor_of (version_at page)) (min r (minor_of (version_at page))) base page) page ≤ i → named r base page i ≡ false
unfolding kept_for view_at
kept-covers r base page p o i h =
    let w : ℕ = minor_of (version_at page) in
    let v : View = view_at w (min r w) base page in
    let c : max (core (min r w)) (fields_reach (word_at 8 page) page) ≤ highest_of v page 4 = start-within v page 4 in
    let n = placed base (length page) p in
    (others-unnamed r base page).gap i (omega arith)
    (λ k l.
    let f : k < 4 = omega (arith, section-count-most (min r w)) in
    beside (min r w) base page i k l (rw (← section-is w (min r w) base page k f) (omega (arith, end-within v page 4 k f))))
    (fields-beside base page i n.2 n.0 o (omega arith))
