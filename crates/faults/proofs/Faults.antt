-- Laws of the definitions, in the form that the turns and returns of the code need. Assumes nothing.
use Rattle.std.proofs.Common.{◌≡◌, ℕ, suc, ◌+◌, ◌-◌, ◌*◌, ◌%◌, ◌^◌, ◌<◌, ◌≤◌, Bool, true, false, cond, eqb, leb, List, length, get_or, take, drop, sym, refl, ◌∙◌, mul-le-mul_left, mul-suc, add-one, arith, length-drop, take_all, eq-eqb, ne_eqb, le-leb, leb-true, Ok, Err}
use native.Mathlib.Decide.{dec_le}
use borrow.Author.Tests.{lt-leb}
use Rattle.words.specs.Tests.{both, either}
use Rattle.words.specs.Word.{num_at}
use Rattle.versions.specs.Edition.{core}
use Rattle.entries.specs.Entry.{words_per_entry, size, sum, check_ok}
use Rattle.entries.specs.Array.{entry_place, words_at}
use Rattle.entries.specs.Steps.{sum_at}
use Rattle.entries.proofs.Entries.{per-range, sum-words, mod-left, mod-right}
use Rattle.sections.specs.Page.{count_at, pointer_at, check_at}
use Rattle.sections.specs.Section.{in_range}
use Rattle.sections.specs.Steps.{clear_at}
use Rattle.sections.proofs.Sections.{end-steps}
use Rattle.fields.specs.Steps.{seen_with, none_seen}
use Rattle.fields.specs.declared.Seen.{Seen}
use Rattle.faults.specs.Faults.{Diagnosis, mk_fault, unless, first_fault, first_of, wanted_sum, check_fault, section_tests, section_fault, clash}
use Rattle.faults.specs.Faults.{overlap, field_fault, field_tests, walk_fault, fields_fault}
use Rattle.faults.specs.declared.Rule.{Rule}
use Rattle.faults.specs.declared.Rule.TheVariants as rule
use Rattle.faults.specs.declared.Fault.{Fault}

pub either_true : (b : Bool) → either b true ≡ true
unfolding either
either_true true = refl
either_true false = refl

-- ---- entries one after another
pub place-first : (k at : ℕ) → entry_place k at 0 ≡ at
unfolding entry_place
place-first k at = omega arith

pub place-next : (k at i from step : ℕ) → from ≡ entry_place k at i → step ≡ 8 * words_per_entry k → from + step ≡ entry_place k at (i + 1)
unfolding entry_place
place-next k at i from step h g = rw (add-one, h, g, mul-suc) (omega arith)

pub place-room : (k at i c from step n : ℕ) → from ≡ entry_place k at i → step ≡ 8 * words_per_entry k → i < c → at + size k c ≤ n →
    (from < n) × (from + step ≤ n)
unfolding entry_place size
place-room k at i c from step n h g l r =
    let p = (per-range k).0 in
    let m : words_per_entry k * suc i ≤ words_per_entry k * c = mul-le-mul_left (words_per_entry k) l in
    let q : words_per_entry k * suc i ≡ words_per_entry k * i + words_per_entry k = omega (arith, mul-suc (words_per_entry k) i) in
    (omega arith, omega arith)

-- ---- an array between the core and the page's end
pub range-fits : (e base k c p : ℕ) → base + core e ≤ p → p ≤ base + 4096 → in_range e base k c p ≡ leb (size k c) (base + 4096 - p)
unfolding in_range both
range-fits e base k c p h g = rw (le-leb (base + core e) p h) (go (dec_le (size k c) (base + 4096 - p)))
  where
    go : Dec (size k c ≤ base + 4096 - p) → leb (p + size k c) (base + 4096) ≡ leb (size k c) (base + 4096 - p)
    go (yes m) = rw (le-leb (size k c) (base + 4096 - p) m, le-leb (p + size k c) (base + 4096) (omega arith))
    go (no m) = rw (lt-leb (size k c) (base + 4096 - p) (omega arith), lt-leb (p + size k c) (base + 4096) (omega arith))

-- ---- an overlap
module _ (r : Rule) (k off from to : ℕ) (page : List ℕ) (j : ℕ) where
  pub clash-clear : clear_at from to j page ≡ true → clash r k off from to page j ≡ Ok tt
  unfolding clash unless
  clash-clear h = rw h

  pub clash-at : clear_at from to j page ≡ false → clash r k off from to page j ≡ Err (mk_fault r k j off from 0)
  unfolding clash unless
  clash-at h = rw h

-- ---- the fields, turn by turn: the code read t and m at the offset, and d is its result for them
unless-clear : (b : Bool) (f : Fault) (d : Diagnosis) → unless b f d ≡ Ok tt → b ≡ true
unfolding unless
unless-clear true f d h = refl
unless-clear false f d h = absurd (let z : ◌≡◌ {A = ℕ} 1 0 = cc in omega arith)

module _ (s : Seen) (from i at : ℕ) (bs : List ℕ) (l : i < length bs) (t m : ℕ) (ct : t ≡ get_or bs at 0) (cm : m ≡ num_at 2 (at + 1) bs)
    (d : Diagnosis) (cd : d ≡ field_tests s from i at t m (length bs)) where
  walk_turn : walk_fault (length bs - i) s from i at bs ≡ first_fault d
      (cond (eqb t 0) (Ok tt) (walk_fault (length bs - (i + 1)) (seen_with s t) from (i + 1) (at + 3 + m) bs))
  unfolding walk_fault
  walk_turn = rw (let e : length bs - i ≡ suc (length bs - (i + 1)) = omega arith in e, cd, ct, cm)

  pub walk_at : (x : Fault) → d ≡ Err x → d ≡ walk_fault (length bs - i) s from i at bs
  unfolding first_fault
  walk_at x h = rw (walk_turn, h)

  module _ (h : d ≡ Ok tt) where
    pub walk_end : t ≡ 0 → Ok tt ≡ walk_fault (length bs - i) s from i at bs
    unfolding first_fault
    walk_end z = rw (walk_turn, h, eq-eqb t 0 z)

    pub walk_more : (t ≡ 0 → ⊥) → walk_fault (length bs - (i + 1)) (seen_with s t) from (i + 1) (at + 3 + m) bs ≡ walk_fault
        (length bs - i) s from i at bs
    unfolding first_fault
    walk_more z = rw (walk_turn, h, ne_eqb t 0 z)

    pub walk-room : at + 3 + m ≤ length bs
    unfolding field_tests
    walk-room = leb-true _ _ (unless-clear (leb (at + 3 + m) (length bs)) _ _ (sym cd ∙ h))

pub walk_start : (s : Seen) (from : ℕ) (bs : List ℕ) → s ≡ none_seen → walk_fault (length bs - 0) s from 0 0 bs ≡ fields_fault from bs
unfolding fields_fault
walk_start s from bs h = rw (h, let z : length bs - 0 ≡ length bs = omega arith in z)

pub walk-out : (s : Seen) (from i at : ℕ) (bs : List ℕ) (t m : ℕ) → t ≡ get_or bs at 0 → m ≡ num_at 2 (at + 1) bs → i ≡ length bs →
    Err (field_fault rule.NoEndMark (length bs) (from + at) t m) ≡ walk_fault (length bs - i) s from i at bs
unfolding walk_fault
walk-out s from i at bs t m ct cm e = rw (let z : length bs - i ≡ 0 = omega arith in z, ct, cm, e)

-- from an offset on, as the code lends it
pub fields_lent : (from at : ℕ) (bs : List ℕ) → fields_fault from (take (length bs - at) (drop at bs)) ≡ fields_fault from (drop at bs)
fields_lent from at bs = rw (take_all (length bs - at) (drop at bs) (rw length-drop (omega arith)))

-- ---- the checksum, given the sums that the code computed: u is the wanted checksum
wanted-law : (t u : ℕ) → t < 2 ^ 64 → u < 2 ^ 64 → (u + t) % 2 ^ 64 ≡ 0 → u ≡ (2 ^ 64 - t) % 2 ^ 64
wanted-law t u l m h = omega arith

zero-law : (y t u : ℕ) → t ≡ y % 2 ^ 64 → (u + t) % 2 ^ 64 ≡ 0 → (y + u) % 2 ^ 64 ≡ 0
zero-law y t u e h = omega arith

same-law : (y t u s : ℕ) → t ≡ y % 2 ^ 64 → (u + t) % 2 ^ 64 ≡ 0 → u < 2 ^ 64 → s < 2 ^ 64 → (y + s) % 2 ^ 64 ≡ 0 → s ≡ u
same-law y t u s e h l m g = omega arith

module _ (k at c p s : ℕ) (page : List ℕ) (n x h t u : ℕ) (cn : n ≡ words_per_entry k) (cx : x ≡ sum_at at (n * c) page % 2 ^ 64)
    (ch : h ≡ (c + p) % 2 ^ 64)
    (ct : t ≡ (h + x) % 2 ^ 64) (cu : (u + t) % 2 ^ 64 ≡ 0) (lu : u < 2 ^ 64) where
  told-total : t ≡ (c + p + sum (words_at k c at page)) % 2 ^ 64
  told-total =
      ct ∙ rw (
        ch,
        cx,
        cn,
        sum-words k at c page,
        mod-left (c + p) (sum (words_at k c at page) % 2 ^ 64),
        mod-right (c + p) (sum (words_at k c at page)),
      )

  told-wanted : u ≡ wanted_sum c p (words_at k c at page)
  unfolding wanted_sum
  told-wanted = rw (← told-total) (wanted-law t u (rw ct (omega arith)) lu cu)

  pub check-good : s ≡ u → Ok tt ≡ check_fault k c p s (words_at k c at page)
  unfolding check_fault check_ok unless
  check-good e =
      rw (e, eq-eqb ((c + p + sum (words_at k c at page) + u) % 2 ^ 64) 0 (zero-law (c + p + sum (words_at k c at page)) t u told-total cu))

  pub check-bad : s < 2 ^ 64 → (s ≡ u → ⊥) → Err (mk_fault rule.Checksum k 0 (32 + 24 * k) s u) ≡ check_fault k c p s (words_at k c at page)
  unfolding check_fault check_ok unless
  check-bad l e =
      rw (
        ne_eqb ((c + p + sum (words_at k c at page) + s) % 2 ^ 64) 0
            (λ z. e (same-law (c + p + sum (words_at k c at page)) t u s told-total cu lu l z)),
        told-wanted,
      )

-- ---- a section, given the three words that the code read
pub told-section : (w e base k : ℕ) (page : List ℕ) (c p s : ℕ) → c ≡ count_at k page → p ≡ pointer_at k page → s ≡ check_at k page →
    (d : Diagnosis) → d ≡ section_tests w e base k c p s page → d ≡ section_fault w e base page k
unfolding section_fault
told-section w e base k page c p s cc' cp cs d h = h ∙ rw (cc', cp, cs)

-- the overlaps of an array, given the words that the code read
pub told-overlap : (page : List ℕ) (i w c p : ℕ) → w ≡ words_per_entry i → c ≡ count_at i page → p ≡ pointer_at i page →
    (d : Diagnosis) → d ≡ first_of i (clash rule.ArrayOverlap i (24 + 24 * i) p (p + 8 * (w * c)) page) → d ≡ overlap page i
unfolding overlap
told-overlap page i w c p cw cc' cp d h = h ∙ rw (cp, end-steps i w c page cw cc')
