-- The arrays and fields of a page whose rules hold fit together between its core and its end. Assumes nothing.
use Prim.Native.Nat.{ℕ, suc, ◌+◌, ◌≤◌, ◌<◌}
use mathlib.Core.Path.{◌≡◌}
use mathlib.Core.Bool.{true, cond}
use mathlib.Core.Logic.{◌⊎◌, inl, inr}
use mathlib.Core.List.{List}
use native.Mathlib.Decide.{dec_lt}
use native.Mathlib.Omega.{arith}
use lib.Dec.{ltb}
use lib.ListN.{length}
use borrow.Author.Tests.{lt-ltb, le-ltb, eqb-true, leb-true, ltb-true, eq-eqb}
use Rattle.words.specs.Word.{word_at}
use Rattle.words.proofs.Tests.{both_l, both_r, either-cases, every-at}
use Rattle.versions.specs.Edition.{section_count, core}
use Rattle.entries.specs.Entry.{size}
use Rattle.fields.specs.Fields.{taken}
use Rattle.sections.specs.Page.{count_at, pointer_at, page_section, page_section_at, page_platform, found_at, platform_at}
use Rattle.sections.specs.Section.{nothing, section_ok, platform_ok, rules_at}
use Rattle.sections.specs.Steps.{ok_at, end_of, apart_at, clear_to, apart_to, clear_at, clear_from}
use Rattle.sections.proofs.Sections.{range-low, range-high, found_within, rules-steps, rules-at, rules-pointer}
use Rattle.sections.proofs.Spans.{added_up, NoneShared, AllWithin, spans_fit}

-- ---- where the fields are
taken_none : (base q : ℕ) (page : List ℕ) → q ≡ 0 → taken (found_at base page q) ≡ 0
unfolding found_at taken
taken_none base q page z = rw (eq-eqb q 0 z)

-- the fields of a page whose rules hold have no bytes, or are between the core and the page's end
pub fields_lie : (e base : ℕ) (page : List ℕ) → length page ≡ 4096 → platform_ok e base (platform_at base page) ≡ true →
    (taken (found_at base page (word_at 8 page)) ≡ 0) ⊎ ((base + core e ≤ word_at 8 page) ×
    (word_at 8 page + taken (found_at base page (word_at 8 page)) ≤ base + 4096))
unfolding platform_ok platform_at page_platform
fields_lie e base page n h =
    either-cases _ _
    (λ z. inl (taken_none base (word_at 8 page) page (eqb-true _ _ z)))
    (λ b.
    let l : base + core e ≤ word_at 8 page = leb-true _ _ (both_l _ _ b) in
    let u : word_at 8 page < base + 4096 = ltb-true _ _ (both_l _ _ (both_r _ _ b)) in
    inr (l, omega (arith, found_within base (word_at 8 page) page n)))
    h

-- ---- where the arrays are
size_none : (k c : ℕ) → c ≡ 0 → size k c ≡ 0
unfolding size
size_none k c e = rw e (omega arith)

-- the array of a section whose rule holds is empty, or is between the core and the page's end
module _ (w e base : ℕ) (page : List ℕ) where
  pub array_lies : (k : ℕ) → ok_at w e base k page ≡ true →
      (size k (count_at k page) ≡ 0) ⊎ ((base + core e ≤ pointer_at k page) × (pointer_at k page + size k (count_at k page) ≤ base + 4096))
  unfolding ok_at section_ok page_section_at page_section nothing
  array_lies k h =
      either-cases _ _
      (λ n. inl (size_none k (count_at k page) (eqb-true _ _ (both_l _ _ n))))
      (λ n. inr (
        range-low e base k (count_at k page) (pointer_at k page) (both_l _ _ n),
        range-high e base k (count_at k page) (pointer_at k page) (both_l _ _ n),
      ))
      h

  fields-apart : (n : ℕ) → clear_from (word_at 8 page) (word_at 8 page + taken (found_at base page (word_at 8 page))) n page ≡ true → (j : ℕ) →
      j < n →
      (word_at 8 page + taken (found_at base page (word_at 8 page)) ≤ pointer_at j page) ⊎
      (pointer_at j page + size j (count_at j page) ≤ word_at 8 page)
  unfolding clear_from clear_at end_of
  fields-apart n h j l =
      either-cases _ _
      (λ t. inl (leb-true _ _ t))
      (λ t. inr (leb-true _ _ t))
      (every-at n (λ k. clear_at (word_at 8 page) (word_at 8 page + taken (found_at base page (word_at 8 page))) k page) h j l)

  arrays-apart : (n : ℕ) → apart_to n page ≡ true → NoneShared n (λ k. pointer_at k page) (λ k. size k (count_at k page))
  unfolding apart_to clear_to apart_at end_of
  arrays-apart n h i j l g =
      either-cases _ _
      (λ t. inl (leb-true _ _ t))
      (λ t. inr (leb-true _ _ t))
      (every-at i (λ j. apart_at i j page) (every-at n (λ i. clear_to i i page) h i g) j l)

  -- the spans of the arrays of the edition, and of the fields as the last one
  unfoldable span_from : ℕ → ℕ
  span_from k = cond (ltb k (section_count e)) (pointer_at k page) (word_at 8 page)

  unfoldable pub span_length : ℕ → ℕ
  span_length k = cond (ltb k (section_count e)) (size k (count_at k page)) (taken (found_at base page (word_at 8 page)))

  module _ (n : length page ≡ 4096) (h : rules_at w e base page ≡ true) where
    rest-apart : (apart_to (section_count e) page ≡ true)
        × (clear_from (word_at 8 page) (word_at 8 page + taken (found_at base page (word_at 8 page))) (section_count e) page ≡ true)
    rest-apart = let t = both_r _ _ (both_r _ _ (both_r _ _ (rw (rules-steps w e base page) at h))) in (both_l _ _ t, both_r _ _ t)

    spans-within : AllWithin (suc (section_count e)) span_from span_length (base + core e) (base + 4096)
    unfolding span_from span_length
    spans-within k l = go (dec_lt k (section_count e))
      where
        go : Dec (k < section_count e) → (span_length k ≡ 0) ⊎ ((base + core e ≤ span_from k) × (span_from k + span_length k ≤ base + 4096))
        go (yes m) = rw (lt-ltb k (section_count e) m) (array_lies k (rules-at w e base page h k m))
        go (no m) = rw (le-ltb k (section_count e) (omega arith)) (fields_lie e base page n (rules-pointer w e base page h))

    spans_apart : NoneShared (suc (section_count e)) span_from span_length
    unfolding span_from span_length
    spans_apart i j l g = go (dec_lt i (section_count e))
      where
        go : Dec (i < section_count e) → (span_from i + span_length i ≤ span_from j) ⊎ (span_from j + span_length j ≤ span_from i)
        go (yes m) =
            let o : j < section_count e = omega arith in
            rw (lt-ltb i (section_count e) m, lt-ltb j (section_count e) o) (arrays-apart (section_count e) rest-apart.0 i j l m)
        go (no m) =
            let o : j < section_count e = omega arith in
            rw (le-ltb i (section_count e) (omega arith), lt-ltb j (section_count e) o) (fields-apart (section_count e) rest-apart.1 j o)

    -- all arrays and the fields together have at most 4096 - core e bytes
    pub arrays-fit : core e ≤ 4096 → base + core e + added_up (suc (section_count e)) span_length ≤ base + 4096
    arrays-fit c = spans_fit (suc (section_count e)) span_from span_length (base + core e) (base + 4096) (omega arith) spans-within spans_apart
