-- The rule that a diagnosis names is broken at the place reported: one pass over the definitions, one fact for each leaf. Assumes nothing.
use Rattle.std.proofs.Common.{◌≡◌, ℕ, zero, suc, ◌+◌, ◌-◌, ◌*◌, ◌%◌, ◌^◌, ◌<◌, ◌≤◌, Bool, true, false, eqb, ltb, List, length, get_or, drop, sym, refl, ap, ◌∙◌, add-one, arith, length-drop, get_or-drop, drop-drop, ltb-false, lt-ltb, eq-eqb, eqb-true, le-leb, leb-false, Ok}
use mathlib.Core.Bool.{false≢true}
use borrow.Author.Tests.{eqb-false, not-false}
use Rattle.words.specs.Tests.{both, either}
use Rattle.words.proofs.Tests.{both_l, both_r, both_of, either-cases}
use Rattle.words.specs.Word.{part, num_at, word_at}
use Rattle.versions.specs.Edition.{section_count, core}
use Rattle.entries.specs.Entry.{size, flags_ok, sum, check_ok, entries_ok}
use Rattle.entries.specs.Array.{words_at, entry_place, sound_of}
use Rattle.entries.specs.Steps.{entries_at}
use Rattle.entries.proofs.Entries.{entries-same}
use Rattle.fields.specs.Fields.{length_ok, taken}
use Rattle.fields.specs.Steps.{is_seen, seen_with, none_seen}
use Rattle.fields.specs.declared.Seen.{Seen}
use Rattle.sections.specs.Page.{count_at, pointer_at, check_at, page_section, page_section_at, found_at}
use Rattle.sections.specs.Section.{words_in, nothing, in_range, section_ok}
use Rattle.sections.proofs.Sections.{array-in, range-low}
use Rattle.sections.specs.Steps.{ok_to, apart_to, clear_at}
use Rattle.reader.specs.declared.Refusal.TheVariants as refusal
use Rattle.faults.specs.Faults.{mk_fault, first_of, bank_fault, console_fault, entry_fault, entry_of, wanted_sum, check_fault, array_fault}
use Rattle.faults.specs.Faults.{section_tests, section_fault, clash, overlap, field_fault, field_tests, walk_fault, fields_fault, plat_fault}
use Rattle.faults.specs.Faults.{rules_fault, refusal_of}
use Rattle.faults.specs.Promise.{field_place, unit, array_words, BrokenAs}
use Rattle.faults.specs.declared.Rule.TheVariants as rule
use Rattle.faults.specs.declared.Fault.{Fault}
use Rattle.faults.proofs.Order.{is-clear}
use Rattle.faults.proofs.Clear.{entries-clear, sections-clear, overlaps-clear}
use Rattle.faults.proofs.Holds.{Holds, hold-unless, hold-cond, hold-or, hold-first}

either-none : (a b : Bool) → either a b ≡ false → (a ≡ false) × (b ≡ false)
unfolding either
either-none true b h = absurd (false≢true (sym h))
either-none false b h = (refl, h)

wanted-zero : (y : ℕ) → (y + (2 ^ 64 - y % 2 ^ 64) % 2 ^ 64) % 2 ^ 64 ≡ 0
wanted-zero y = omega arith

zero-off : (x : ℕ) → x ≡ x + 8 * 0
zero-off x = omega arith

nothing-of : (c p s : ℕ) → c ≡ 0 → p ≡ 0 → s ≡ 0 → nothing c p s ≡ true
unfolding nothing
nothing-of c p s x y z = both_of _ _ (eq-eqb c 0 x) (both_of _ _ (eq-eqb p 0 y) (eq-eqb s 0 z))

range-of : (e base k c p : ℕ) → base + core e ≤ p → p + size k c ≤ base + 4096 → in_range e base k c p ≡ true
unfolding in_range
range-of e base k c p x y = both_of _ _ (le-leb _ _ x) (le-leb _ _ y)

wanted-lt : (c p : ℕ) (ws : List ℕ) → wanted_sum c p ws < 2 ^ 64
unfolding wanted_sum
wanted-lt c p ws = omega arith

-- a number in the page from an offset on is a number in the page
num-drop : (n from at : ℕ) (page : List ℕ) → num_at n at (drop from page) ≡ num_at n (from + at) page
unfolding num_at part
num-drop n from at page = rw (drop-drop at from page)

-- ---- what a seen tag implies: a field before has that tag
abbrev Before : ℕ → List ℕ → ℕ → ℕ → Type 0
Before from page i u = ((j : ℕ) × (j < i) × (get_or page (field_place from page j) 0 ≡ u)) × (1 ≤ u) × (u ≤ 3)

abbrev Marks : ℕ → List ℕ → Seen → ℕ → Type 0
Marks from page s i = (u : ℕ) → is_seen s u ≡ true → Before from page i u

marks-none : (from : ℕ) (page : List ℕ) → Marks from page none_seen 0
unfolding is_seen none_seen
marks-none from page u h =
    either-cases _ _ (λ x. absurd (false≢true (both_r _ _ x)))
    (λ y. either-cases _ _ (λ x. absurd (false≢true (both_r _ _ x))) (λ x. absurd (false≢true (both_r _ _ x))) y) h

-- one tag: this field has it, or it was seen before
one-mark : (u t k : ℕ) (b : Bool) {P : Type 0} → 1 ≤ k → k ≤ 3 → (u ≡ t → 1 ≤ u → u ≤ 3 → P) → (both (eqb u k) b ≡ true → P) →
    both (eqb u k) (either (eqb t k) b) ≡ true → P
one-mark u t k b l m f g h =
    let e : u ≡ k = eqb-true _ _ (both_l _ _ h) in
    either-cases _ _
    (λ x. f (e ∙ sym (eqb-true _ _ x)) (omega arith) (omega arith))
    (λ x. g (both_of _ _ (both_l _ _ h) x))
    (both_r _ _ h)

either_left : (a b : Bool) → a ≡ true → either a b ≡ true
unfolding either
either_left a b h = rw h

either-right : (a b : Bool) → b ≡ true → either a b ≡ true
unfolding either
either-right true b h = refl
either-right false b h = h

later : (from : ℕ) (page : List ℕ) (i u : ℕ) → Before from page i u → Before from page (i + 1) u
later from page i u ((j, l, e), a, b) = ((j, omega arith, e), a, b)

marks-more : (from : ℕ) (page : List ℕ) (s : Seen) (i t : ℕ) → Marks from page s i → get_or page (field_place from page i) 0 ≡ t →
    Marks from page (seen_with s t) (i + 1)
unfolding is_seen seen_with
marks-more from page s i t o c u h =
    let now : (u ≡ t → 1 ≤ u → u ≤ 3 → Before from page (i + 1) u) = λ e l m. ((i, omega arith, c ∙ sym e), l, m) in
    either-cases _ _
    (one-mark u t 1 s.name (omega arith) (omega arith) now (λ x. later from page i u (o u (either_left _ _ x))))
    (λ y.
    either-cases _ _
    (one-mark u t 2 s.serial (omega arith) (omega arith) now (λ x. later from page i u (o u (either-right _ _ (either_left _ _ x)))))
    (one-mark u t 3 s.console (omega arith) (omega arith) now (λ x. later from page i u (o u (either-right _ _ (either-right _ _ x)))))
    y)
    h

module _ (r w e base : ℕ) (page : List ℕ) where
  abbrev pub Good : Fault → Type 0
  Good f = (refusal_of f.rule ≡ refusal.Rules) × BrokenAs f.rule r w e base page f

  -- ---- an entry
  module _ (k i : ℕ) (lk : k < section_count e) (ls : ok_to w e base k page ≡ true) (l : i < count_at k page)
      (le : entries_at w k (pointer_at k page - base) i page ≡ true) where
    abbrev at : ℕ
    at = entry_place k (pointer_at k page - base) i

    end-law : (n : ℕ) → 2 ^ 52 < word_at at page + unit k * n → 2 ^ 52 < word_at (at + 8 - 8) page + unit k * n
    end-law n h = rw (let z : at + 8 - 8 ≡ at = omega arith in z) h

    bank-broken : eqb k 1 ≡ false → Holds Good (bank_fault k i at (word_at at page) (word_at (at + 8) page))
    unfolding bank_fault mk_fault refusal_of unit
    bank-broken z =
        let b = word_at at page in
        let s = word_at (at + 8) page in
        hold-unless Good _ _ _ (λ h. (refl, (eqb-false _ _ h, (lk, ls, l, le, (zero-off at, ap (λ x. word_at x page) (zero-off at)))))) (λ g.
        hold-unless Good _ _ _ (λ h. (refl, (eqb-false _ _ h, (lk, ls, l, le, (refl, refl))))) (λ g.
        hold-unless Good _ _ _ (λ h. (refl, (omega (arith, ltb-false 0 s h), (lk, ls, l, le, (refl, refl))))) (λ g.
        hold-unless Good _ _ _ (λ h. (
          refl,
          (
            end-law s (rw z (omega (arith, leb-false (b + s) (2 ^ 52) h))),
            (lk, ls, l, le, (refl, refl)),
          ),
        )) (λ g. tt))))

    console-broken : eqb k 1 ≡ true → Holds Good (console_fault w k i at (word_at at page) (word_at (at + 8) page) (word_at (at + 40) page))
    unfolding console_fault flags_ok mk_fault refusal_of unit
    console-broken z =
        let b = word_at at page in
        let n = word_at (at + 8) page in
        hold-unless Good _ _ _ (λ h. (refl, (eqb-false _ _ h, (lk, ls, l, le, (zero-off at, ap (λ x. word_at x page) (zero-off at)))))) (λ g.
        hold-unless Good _ _ _ (λ h. (refl, (omega (arith, ltb-false 0 n h), (lk, ls, l, le, (refl, refl))))) (λ g.
        hold-unless Good _ _ _ (λ h. (
          refl,
          (
            end-law n (rw z (omega (arith, leb-false (b + 4096 * n) (2 ^ 52) h))),
            (lk, ls, l, le, (refl, refl)),
          ),
        )) (λ g.
        hold-unless Good _ _ _ (λ h. (
          refl,
          (
            eqb-false _ _ (either-none _ _ h).0,
            omega (arith, ltb-false 4 w (either-none _ _ h).1),
            (lk, ls, l, le, (refl, refl)),
          ),
        )) (λ g. tt))))

    entry-broken : Holds Good (entry_fault w k i at page)
    unfolding entry_fault
    entry-broken = hold-cond Good _ _ _ console-broken bank-broken

  entry_at : (k : ℕ) → k < section_count e → ok_to w e base k page ≡ true → (i : ℕ) → i < count_at k page →
      first_of i (entry_of w k (pointer_at k page - base) page) ≡ Ok tt → Holds Good (entry_of w k (pointer_at k page - base) page i)
  unfolding entry_of
  entry_at k lk ls i l c = entry-broken k i lk ls l (sym (entries-clear w k (pointer_at k page - base) i page) ∙ is-clear _ c)

  -- ---- a section
  module _ (k : ℕ) (lk : k < section_count e) (ls : ok_to w e base k page ≡ true) (hc : ltb 0 (count_at k page) ≡ true)
      (ha : eqb (pointer_at k page % 8) 0 ≡ true)
      (hr : in_range e base k (count_at k page) (pointer_at k page) ≡ true)
      (hn : first_of (count_at k page) (entry_of w k (pointer_at k page - base) page) ≡ Ok tt) where
    -- with the wanted checksum the section keeps its rule
    wanted-ok : section_ok w e base k (page_section (count_at k page) (pointer_at k page)
        (wanted_sum (count_at k page) (pointer_at k page) (array_words base k page)) (page_section_at base page k).bytes) ≡ true
    unfolding section_ok page_section page_section_at words_in words_at sound_of check_ok wanted_sum
    wanted-ok =
        let c = count_at k page in
        let p = pointer_at k page in
        let n : entries_ok w k c (words_at k c (p - base) page) ≡ true = entries-same w k (p - base) c page ∙
        sym (entries-clear w k (p - base) c page) ∙ is-clear _ hn in
        either-right _ _ (both_of _ _ hr (rw (array-in e base k c p hr page)
        (both_of _ _ hc (both_of _ _ ha (both_of _ _ (eq-eqb _ 0 (wanted-zero (c + p + sum (array_words base k page)))) n)))))

    check-broken : Holds Good (check_fault k (count_at k page) (pointer_at k page) (check_at k page) (array_words base k page))
    unfolding check_fault check_ok mk_fault refusal_of
    check-broken =
        hold-unless Good _ _ _ (λ h. (
          refl,
          (
            eqb-false _ _ h,
            wanted-lt _ _ _,
            range-low e base k (count_at k page) (pointer_at k page) hr,
            wanted-ok,
            (lk, ls, (refl, refl)),
          ),
        )) (λ g. tt)

  section-broken : (k : ℕ) → k < section_count e → first_of k (section_fault w e base page) ≡ Ok tt → Holds Good (section_fault w e base page k)
  unfolding section_fault section_tests array_fault mk_fault refusal_of
  section-broken k lk lc =
      let ls = sym (sections-clear w e base k page) ∙ is-clear _ lc in
      let c = count_at k page in
      let q = pointer_at k page in
      hold-cond Good (nothing c q (check_at k page)) _ _ (λ z. tt) (λ z.
      hold-unless Good _ _ _ (λ h. let y : c ≡ 0 = omega (arith, ltb-false 0 c h) in
      (refl, (y, (λ x. false≢true (sym z ∙ nothing-of c q _ y x.0 x.1)), (lk, ls, (refl, refl))))) (λ hc.
      hold-unless Good _ _ _ (λ h. (refl, (eqb-false _ _ h, (lk, ls, (refl, refl))))) (λ ha.
      hold-unless Good _ _ _ (λ h. (refl, ((λ x. false≢true (sym h ∙ range-of e base k c q x.0 x.1)), (lk, ls, (refl, refl))))) (λ hr.
      hold-or Good _ _ (hold-first Good c (entry_of w k (q - base) page) (entry_at k lk ls)) (λ hn. check-broken k lk ls hc ha hr hn)))))

  -- ---- overlaps
  overlap-broken : ok_to w e base (section_count e) page ≡ true → (i : ℕ) → i < section_count e → first_of i (overlap page) ≡ Ok tt →
      Holds Good (overlap page i)
  unfolding overlap clash clear_at mk_fault refusal_of
  overlap-broken all i li ic =
      hold-first Good i _ (λ j l c.
      hold-unless Good _ _ _ (λ h. let x = either-none _ _ h in
      (refl, (leb-false _ _ x.1, leb-false _ _ x.0, l, li, all, sym (overlaps-clear i page) ∙ is-clear _ ic, (refl, refl))))
      (λ g. tt))

  fields-overlap : ok_to w e base (section_count e) page ≡ true → apart_to (section_count e) page ≡ true →
      Holds Good (first_of (section_count e) (clash rule.FieldsOverlap 0 8 (word_at 8 page)
      (word_at 8 page + taken (found_at base page (word_at 8 page))) page))
  unfolding clash clear_at mk_fault refusal_of
  fields-overlap all apart =
      hold-first Good (section_count e) _ (λ j l c.
      hold-unless Good _ _ _ (λ h. let x = either-none _ _ h in
      (refl, (leb-false _ _ x.1, leb-false _ _ x.0, l, all, apart, (refl, refl)))) (λ g. tt))

  -- ---- the fields, which start at the offset of the pointer
  abbrev start : ℕ
  start = word_at 8 page - base

  -- t and m are the tag and the length of field i
  module _ (s : Seen) (i at t m : ℕ) (ct : t ≡ get_or page (start + at) 0) (cm : m ≡ num_at 2 (start + at + 1) page)
      (p : start + at ≡ field_place start page i) where
    found-law : t + 256 * m ≡ get_or page (start + at) 0 + 256 * num_at 2 (start + at + 1) page
    found-law = rw (ct, cm)

    pub cut-broken : length page - start < at + 3 + m → Good (field_fault rule.NoEndMark i (start + at) t m)
    unfolding field_fault mk_fault refusal_of
    cut-broken h = (refl, (rw (← cm) (omega arith), (p, found-law)))

    tag-broken : t ≡ 0 → (m ≡ 0 → ⊥) → Good (field_fault rule.FieldTag i (start + at) t m)
    unfolding field_fault mk_fault refusal_of
    tag-broken y z = (refl, (sym ct ∙ y, (λ x. z (cm ∙ x)), (p, found-law)))

    length-broken : length_ok t m ≡ false → Good (field_fault rule.FieldLength i (start + at) t m)
    unfolding field_fault mk_fault refusal_of
    length-broken h = (refl, (rw (← ct, ← cm) h, (p, found-law)))

    twice-broken : Before start page i t → Good (field_fault rule.FieldTwice i (start + at) t m)
    unfolding field_fault mk_fault refusal_of
    twice-broken ((j, l, q), x, y) = (refl, ((j, l, q ∙ ct), rw (← ct) x, rw (← ct) y, (p, found-law)))

    pub field-broken : Marks start page s i → Holds Good (field_tests s start i at t m (length (drop start page)))
    unfolding field_tests
    field-broken o =
        hold-unless Good _ _ _ (λ h. cut-broken (omega (
          arith,
          leb-false (at + 3 + m) (length (drop start page)) h,
          length-drop start page,
        ))) (λ g.
        hold-cond Good (eqb t 0) _ _ (λ z. hold-unless Good _ _ _ (λ h. tag-broken (eqb-true _ _ z) (eqb-false _ _ h)) (λ g. tt)) (λ z.
        hold-unless Good _ _ _ (λ h. length-broken h) (λ g.
        hold-unless Good _ _ _ (λ h. twice-broken (o t (not-false _ h))) (λ g. tt))))

  tag-law : (at : ℕ) → get_or (drop start page) at 0 ≡ get_or page (start + at) 0
  tag-law at = get_or-drop start page at 0

  len-law : (at : ℕ) → num_at 2 (at + 1) (drop start page) ≡ num_at 2 (start + at + 1) page
  len-law at = num-drop 2 start (at + 1) page ∙ ap (λ x. num_at 2 x page) (let z : start + (at + 1) ≡ start + at + 1 = omega arith in z)

  next-law : (i at m : ℕ) → start + at ≡ field_place start page i → m ≡ num_at 2 (start + at + 1) page →
      start + (at + 3 + m) ≡ field_place start page (i + 1)
  unfolding field_place
  next-law i at m p c = rw (add-one, ← p, ← c) (omega arith)

  walk-broken : (n : ℕ) (s : Seen) (i at : ℕ) → length (drop start page) ≤ at + n → start + at ≡ field_place start page i →
      Marks start page s i →
      Holds Good (walk_fault n s start i at (drop start page))
  unfolding walk_fault
  walk-broken zero s i at l p o =
      cut-broken s i at (get_or (drop start page) at 0) (num_at 2 (at + 1) (drop start page)) (tag-law at) (len-law at) p
      (omega (arith, length-drop start page))
  walk-broken (suc n) s i at l p o =
      hold-or Good _ _
      (field-broken s i at (get_or (drop start page) at 0) (num_at 2 (at + 1) (drop start page)) (tag-law at) (len-law at) p o)
      (λ g. hold-cond Good (eqb (get_or (drop start page) at 0) 0) _ _ (λ z. tt) (λ z.
      walk-broken n (seen_with s (get_or (drop start page) at 0)) (i + 1) (at + 3 + num_at 2 (at + 1) (drop start page)) (omega arith)
      (next-law i at (num_at 2 (at + 1) (drop start page)) p (len-law at))
      (marks-more start page s i (get_or (drop start page) at 0) o (rw (← p) (sym (tag-law at))))))

  fields-broken : Holds Good (fields_fault start (drop start page))
  unfolding fields_fault field_place
  fields-broken = walk-broken (length (drop start page)) none_seen 0 0 (omega arith) (omega arith) (marks-none start page)

  -- ---- the page
  plat-broken : Holds Good (plat_fault e base (word_at 8 page) page)
  unfolding plat_fault mk_fault refusal_of
  plat-broken =
      hold-cond Good (eqb (word_at 8 page) 0) _ _ (λ z. tt) (λ z.
      hold-unless Good _ _ _ (λ h. (
        refl,
        (
          eqb-false _ _ z,
          (λ x. false≢true (sym h ∙ both_of _ _ (le-leb _ _ x.0) (lt-ltb _ _ x.1))),
          (refl, refl),
        ),
      )) (λ g. fields-broken))

  pub rules-broken : Holds Good (rules_fault w e base page)
  unfolding rules_fault mk_fault refusal_of
  rules-broken =
      hold-unless Good _ _ _ (λ h. (refl, (eqb-false _ _ h, (refl, refl)))) (λ g.
      hold-or Good _ _ plat-broken (λ g.
      hold-or Good _ _ (hold-first Good (section_count e) (section_fault w e base page) section-broken) (λ sc.
      let all = sym (sections-clear w e base (section_count e) page) ∙ is-clear _ sc in
      hold-or Good _ _ (hold-first Good (section_count e) (overlap page) (overlap-broken all)) (λ oc.
      fields-overlap all (sym (overlaps-clear (section_count e) page) ∙ is-clear _ oc)))))
