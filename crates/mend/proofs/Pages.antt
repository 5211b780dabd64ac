-- The page during mending: what the reader finds for each part, compared with the page at entry. A kept part is after the core, so no zeros reach it.
-- Assumes nothing.
use Rattle.std.proofs.Common.{Some, None}
use Rattle.std.specs.Option.{unwrap_or}
use Prim.Native.Nat.{ℕ, zero, suc, ◌+◌, ◌-◌, ◌*◌, ◌≤◌, ◌<◌}
use mathlib.Core.Bool.{Bool, true, false, cond, not, false≢true}
use mathlib.Core.Logic.{◌⊎◌, inl, inr}
use mathlib.Core.Path.{◌≡◌, refl, sym, ap, ◌∙◌}
use mathlib.Core.List.{List, []}
use native.Mathlib.Omega.{arith}
use lib.ListN.{length, drop, get_or, length-drop}
use lib.Seq.{ext_get_or, get_or-drop}
use lib.Dec.{leb, ltb, eqb, lit≤}
use borrow.Author.Tests.{leb-true, ltb-true, eqb-true, lt-ltb, lt-leb}
use Rattle.words.specs.Tests.{Yes, both, either, some}
use Rattle.words.specs.Word.{le_of, num_at, word_at}
use Rattle.words.proofs.Tests.{both_l, both_r, both_of, some_of, every-same, cond_same, either-cases}
use Rattle.words.proofs.Read.{part_same}
use Rattle.versions.specs.Edition.{section_count, core}
use Rattle.entries.specs.Entry.{size}
use Rattle.fields.specs.Fields.{ended, is_ended, taken}
use Rattle.fields.proofs.Withdrawn.{both-no}
use Rattle.sections.specs.Page.{version_at, padding_at, count_at, pointer_at, check_at, in_page, array_at, page_section, page_section_at}
use Rattle.sections.specs.Page.{PagePlatform, page_platform, found_at, platform_at}
use Rattle.sections.specs.Section.{platform_ok, words_in, nothing, in_range, section_ok, Extent, extent, apart, clear_before, plat_extent}
use Rattle.sections.specs.Section.{plat_clear}
use Rattle.sections.specs.Steps.{ok_at, end_of, clear_at, clear_from, stays_at}
use Rattle.sections.proofs.Sections.{range-low}
use Rattle.fields.proofs.Rules.{no_test}
use Rattle.reader.proofs.Gaps.{some-not}
use Rattle.mend.specs.Mend.{no_platform, no_section, plat_left, stays, after_mending, keeps_section, minor_at, edition_at, plat_left_at}
use Rattle.mend.specs.Mend.{keeps_at, changed, part_at, of_part, parts_zeroed}
use Rattle.mend.specs.Steps.{page_to, fields_at, plat_kept, fields_left, section_goes}
use Rattle.mend.proofs.Kept.{left-later, left-before}
use Rattle.mend.proofs.Blank.{blank-length, blank-at, part-zero, part-bounds, part_of, one-part}

both-then : (a b c : Bool) → (Yes a → b ≡ c) → both a b ≡ both a c
unfolding both
both-then true b c h = h refl
both-then false b c h = refl

pub never_both : (b : Bool) → Yes b → b ≡ false → ⊥
never_both b h k = false≢true (sym k ∙ h)

-- ---- all parts mended
pub to-all : (base : ℕ) (page : List ℕ) → page_to 6 base page ≡ parts_zeroed base page
unfolding page_to parts_zeroed
to-all base page = refl

-- ---- byte by byte
module _ (base : ℕ) (page : List ℕ) (n : ℕ) where
  pub to-length : length (page_to n base page) ≡ length page
  unfolding page_to
  to-length = blank-length _ page

  -- a part that is not changed, or not mended yet
  pub part-stands : (j : ℕ) → (j < n → changed base page j ≡ false) → (i : ℕ) → Yes (of_part j i) →
      get_or (page_to n base page) i 0 ≡ get_or page i 0
  unfolding page_to
  part-stands j c i o =
      rw (
        blank-at (λ i. some n (λ j. both (changed base page j) (of_part j i))) page i,
        no_test (some n (λ j. both (changed base page j) (of_part j i))) (some-not n (λ j. both (changed base page j) (of_part j i)) (λ k l y.
            let z : k ≡ j = one-part k j i (both_r _ _ y) o in
            never_both (changed base page k) (both_l _ _ y) (rw z (c (omega arith))))),
      )

  pub part-zeroed : (j : ℕ) → j < n → Yes (changed base page j) → (i : ℕ) → Yes (of_part j i) → get_or (page_to n base page) i 0 ≡ 0
  unfolding page_to
  part-zeroed j l c i o =
      rw (
        blank-at (λ i. some n (λ j. both (changed base page j) (of_part j i))) page i,
        some_of n (λ j. both (changed base page j) (of_part j i)) j l (both_of _ _ c o),
      )

  -- no changed part reaches past the core
  within : (k i : ℕ) → (i < 4) ⊎ (core (edition_at page) ≤ i) → Yes (changed base page k) → Yes (of_part k i) → ⊥
  unfolding core changed part_at
  within zero i (inl o) c x = let b = part-bounds 0 i x in omega arith
  within zero i (inr o) c x = let b = part-bounds 0 i x in omega arith
  within (suc zero) i (inl o) c x = let b = part-bounds 1 i x in omega arith
  within (suc zero) i (inr o) c x = let b = part-bounds 1 i x in omega arith
  within (suc (suc k)) i (inl o) c x = let b = part-bounds (suc (suc k)) i x in omega arith
  within (suc (suc k)) i (inr o) c x =
      let b = part-bounds (suc (suc k)) i x in let s : k < section_count (edition_at page) = ltb-true _ _ (both_l _ _ c) in omega arith

  pub rest-stands : (i : ℕ) → (i < 4) ⊎ (core (edition_at page) ≤ i) → get_or (page_to n base page) i 0 ≡ get_or page i 0
  unfolding page_to
  rest-stands i o =
      rw (
        blank-at (λ i. some n (λ j. both (changed base page j) (of_part j i))) page i,
        no_test (some n (λ j. both (changed base page j) (of_part j i)))
            (some-not n (λ j. both (changed base page j) (of_part j i)) (λ k l y. within k i o (both_l _ _ y) (both_r _ _ y))),
      )

  -- ---- numbers
  pub version-to : version_at (page_to n base page) ≡ version_at page
  unfolding num_at
  version-to = ap le_of (part_same 0 4 (page_to n base page) page to-length (λ i a b. rest-stands i (inl b)))

  num-stands : (j : ℕ) → (j < n → changed base page j ≡ false) → (m off : ℕ) → part_at j ≤ off → off + m ≤ part_at (suc j) →
      num_at m off (page_to n base page) ≡ num_at m off page
  unfolding num_at
  num-stands j c m off a b =
      ap le_of (part_same off m (page_to n base page) page to-length (λ i x y. part-stands j c i (part_of j i (omega arith) (omega arith))))

  num-zeroed : (j : ℕ) → j < n → Yes (changed base page j) → (m off : ℕ) → part_at j ≤ off → off + m ≤ part_at (suc j) →
      num_at m off (page_to n base page) ≡ 0
  unfolding num_at
  num-zeroed j l c m off a b = part-zero off m (page_to n base page) (λ i x y. part-zeroed j l c i (part_of j i (omega arith) (omega arith)))

  pub padding-stands : (0 < n → changed base page 0 ≡ false) → padding_at (page_to n base page) ≡ padding_at page
  unfolding part_at
  padding-stands c = num-stands 0 c 4 4 (omega arith) (omega arith)

  pub padding-zeroed : 0 < n → Yes (changed base page 0) → padding_at (page_to n base page) ≡ 0
  unfolding part_at
  padding-zeroed l c = num-zeroed 0 l c 4 4 (omega arith) (omega arith)

  pub pointer-stands : (1 < n → changed base page 1 ≡ false) → word_at 8 (page_to n base page) ≡ word_at 8 page
  unfolding part_at
  pointer-stands c = num-stands 1 c 8 8 (omega arith) (omega arith)

  pub pointer-zeroed : 1 < n → Yes (changed base page 1) → word_at 8 (page_to n base page) ≡ 0
  unfolding part_at
  pointer-zeroed l c = num-zeroed 1 l c 8 8 (omega arith) (omega arith)

  -- the words of section k: off is 16, 24 or 32
  pub word_stands : (k : ℕ) → (suc (suc k) < n → changed base page (suc (suc k)) ≡ false) → (off : ℕ) → 16 ≤ off → off ≤ 32 →
      word_at (off + 24 * k) (page_to n base page) ≡ word_at (off + 24 * k) page
  unfolding part_at
  word_stands k c off a b = num-stands (suc (suc k)) c 8 (off + 24 * k) (omega arith) (omega arith)

  pub word-zeroed : (k : ℕ) → suc (suc k) < n → Yes (changed base page (suc (suc k))) → (off : ℕ) → 16 ≤ off → off ≤ 32 →
      word_at (off + 24 * k) (page_to n base page) ≡ 0
  unfolding part_at
  word-zeroed k l c off a b = num-zeroed (suc (suc k)) l c 8 (off + 24 * k) (omega arith) (omega arith)

-- what a pointer of 0 finds
pub array-none : (base : ℕ) (page : List ℕ) (n : ℕ) → 0 < base → array_at base page 0 n ≡ []
unfolding array_at in_page both
array-none base page n h = rw (lt-leb base 0 h)

pub found_none : (base : ℕ) (page : List ℕ) → found_at base page 0 ≡ ended [] 0
unfolding found_at
found_none base page = refl

-- ---- two pages that have the same bytes from the core's end on
module _ (w e base : ℕ) (p q : List ℕ) (l : length p ≡ length q) (s : (i : ℕ) → core e ≤ i → get_or p i 0 ≡ get_or q i 0) where
  array-rest : (a n : ℕ) → base + core e ≤ a → array_at base p a n ≡ array_at base q a n
  unfolding array_at
  array-rest a n h = rw (part_same (a - base) n p q l (λ i x y. s i (omega arith)))

  found-rest : (a : ℕ) → base + core e ≤ a → found_at base p a ≡ found_at base q a
  unfolding found_at
  found-rest a h =
      rw (ext_get_or 0 (drop (a - base) p) (drop (a - base) q) (simp (length-drop, l))
      (λ i k. simp get_or-drop (s (a - base + i) (omega arith))))

  -- the rule of a section with the same words
  sec-rest : (k x y z : ℕ) → section_ok w e base k (page_section x y z (array_at base p y (size k x))) ≡ section_ok w e base k
      (page_section x y z (array_at base q y (size k x)))
  unfolding section_ok words_in page_section
  sec-rest k x y z =
      ap (either (nothing x y z)) (both-then (in_range e base k x y) _ _ (λ r. rw (array-rest y (size k x) (range-low e base k x y r))))

  plat-rest : (a : ℕ) → platform_ok e base (page_platform a (found_at base p a)) ≡ platform_ok e base (page_platform a (found_at base q a))
  unfolding platform_ok page_platform
  plat-rest a =
      ap (either (eqb a 0)) (both-then (leb (base + core e) a) (both (ltb a (base + 4096)) (is_ended (found_at base p a)))
      (both (ltb a (base + 4096)) (is_ended (found_at base q a))) (λ r. rw (found-rest a (leb-true _ _ r))))

  -- a section whose rule holds shows the same
  pub found-held : (a : ℕ) → Yes (platform_ok e base (page_platform a (found_at base q a))) → found_at base p a ≡ found_at base q a
  unfolding platform_ok page_platform found_at
  found-held a h = either-cases _ _ (λ z. rw z) (λ b. found-rest a (leb-true _ _ (both_l _ _ b))) h

  pub array-held : 0 < base → (k x y z : ℕ) → Yes (section_ok w e base k (page_section x y z (array_at base q y (size k x)))) →
      array_at base p y (size k x) ≡ array_at base q y (size k x)
  unfolding section_ok nothing page_section
  array-held o k x y z h =
      either-cases _ _
      (λ b. let n : y ≡ 0 = eqb-true _ _ (both_l _ _ (both_r _ _ b)) in rw
      (n, array-none base p (size k x) o, array-none base q (size k x) o))
      (λ b. array-rest y (size k x) (range-low e base k x y (both_l _ _ b)))
      h

-- ---- the page during mending
module _ (base : ℕ) (page : List ℕ) (n : ℕ) where
  pub rest : (i : ℕ) → core (edition_at page) ≤ i → get_or (page_to n base page) i 0 ≡ get_or page i 0
  rest i h = rest-stands base page n i (inr h)

  -- the platform data, before it is changed
  pub plat-to : n ≤ 1 → plat_kept (edition_at page) base (platform_at base (page_to n base page)) ≡ plat_kept (edition_at page) base
      (platform_at base page)
  unfolding plat_kept platform_at
  plat-to l =
      rw (
        pointer-stands base page n (λ h. absurd (let z : ⊥ = omega arith in z)),
        plat-rest (minor_at page) (edition_at page) base (page_to n base page) page (to-length base page n) rest (word_at 8 page),
        cond_same (platform_ok (edition_at page) base (page_platform (word_at 8 page) (found_at base page (word_at 8 page))))
            (Some (fields_at (page_platform (word_at 8 page) (found_at base (page_to n base page) (word_at 8 page)))))
            (Some (fields_at (page_platform (word_at 8 page) (found_at base page (word_at 8 page))))) None
            (λ h. ap (λ x. Some (fields_at (page_platform (word_at 8 page) x))) (found-held (minor_at page) (edition_at page) base (page_to n base page) page
            (to-length base page n) rest (word_at 8 page) h)),
      )

  -- section k before it is changed: its own rule and its extent
  ok-to : (k : ℕ) → n ≤ suc (suc k) → ok_at (minor_at page) (edition_at page) base k (page_to n base page) ≡ section_ok (minor_at page)
      (edition_at page) base k (page_section_at base page k)
  unfolding ok_at page_section_at
  ok-to k l =
      let c : suc (suc k) < n → changed base page (suc (suc k)) ≡ false = λ h. absurd (let z : ⊥ = omega arith in z) in
      rw (
        word_stands base page n k c 16 (lit≤ tt) (lit≤ tt),
        word_stands base page n k c 24 (lit≤ tt) (lit≤ tt),
        word_stands base page n k c 32 (lit≤ tt) (lit≤ tt),
      )
      (sec-rest (minor_at page) (edition_at page) base (page_to n base page) page (to-length base page n) rest k (count_at k page)
      (pointer_at k page) (check_at k page))

  -- the extent of section k, and of one that was mended before
  extent-to : (k : ℕ) → n ≤ suc (suc k) → extent k (page_section_at base (page_to n base page) k) ≡ extent k (page_section_at base page k)
  unfolding extent page_section_at page_section
  extent-to k l =
      let c : suc (suc k) < n → changed base page (suc (suc k)) ≡ false = λ h. absurd (let z : ⊥ = omega arith in z) in
      rw (word_stands base page n k c 16 (lit≤ tt) (lit≤ tt), word_stands base page n k c 24 (lit≤ tt) (lit≤ tt))

  pub kept-stands : (k : ℕ) → Yes (keeps_at base page k) → changed base page (suc (suc k)) ≡ false
  unfolding changed
  kept-stands k h = rw h (both-no (ltb k (section_count (edition_at page))))

  pub lost-goes : (k : ℕ) → k < section_count (edition_at page) → keeps_at base page k ≡ false → Yes (changed base page (suc (suc k)))
  unfolding changed
  lost-goes k l h = rw h (both_of _ _ (lt-ltb _ _ l) refl)

  extent-gone : (j : ℕ) → suc (suc j) < n → j < section_count (edition_at page) →
      extent j (page_section_at base (page_to n base page) j) ≡ extent j (cond (keeps_at base page j) (page_section_at base page j) no_section)
  unfolding extent page_section_at page_section no_section
  extent-gone j l m = go (keeps_at base page j) refl
    where
      go : (b : Bool) → keeps_at base page j ≡ b → extent j (page_section_at base (page_to n base page) j) ≡ extent j
          (cond b (page_section_at base page j) no_section)
      go true h =
          rw (
            word_stands base page n j (λ _. kept-stands j h) 16 (lit≤ tt) (lit≤ tt),
            word_stands base page n j (λ _. kept-stands j h) 24 (lit≤ tt) (lit≤ tt),
          )
      go false h =
          rw (
            word-zeroed base page n j l (lost-goes j m h) 16 (lit≤ tt) (lit≤ tt),
            word-zeroed base page n j l (lost-goes j m h) 24 (lit≤ tt) (lit≤ tt),
          )

-- the code's comparison is the reader's
clear_apart : (from to k base : ℕ) (p : List ℕ) → clear_at from to k p ≡ apart (record { from = from; to = to })
    (extent k (page_section_at base p k))
unfolding clear_at apart extent page_section_at page_section end_of
clear_apart from to k base p = refl

own-extent : (k base : ℕ) (p : List ℕ) → ◌≡◌ {A = Extent} (record { from = pointer_at k p; to = end_of k p })
    (extent k (page_section_at base p k))
unfolding extent page_section_at page_section end_of
own-extent k base p = refl

-- the addresses that the code passes on are those of the platform data that is left
left-fields : (e base : ℕ) (q : PagePlatform) → fields_left (plat_kept e base q) ≡ fields_at (plat_left e base q)
unfolding fields_left plat_kept fields_at plat_left plat_extent no_platform page_platform taken
left-fields e base q = go (platform_ok e base q)
  where
    go : (b : Bool) → unwrap_or (cond b (Some (fields_at q)) None) (record { from = 0; to = 0 }) ≡ fields_at (cond b q no_platform)
    go true = refl
    go false = refl

-- section k is changed by the test on the page so far exactly if it is by the test on the page at entry
module _ (base : ℕ) (page : List ℕ) (k : ℕ) where
  before-to : k < section_count (edition_at page) →
      clear_from (pointer_at k (page_to (suc (suc k)) base page)) (end_of k (page_to (suc (suc k)) base page)) k (page_to (suc (suc k)) base page)
      ≡ clear_before (after_mending (minor_at page) (edition_at page) base (plat_left_at base page) (page_section_at base page) k) k
  unfolding clear_from clear_before keeps_at
  before-to m =
      every-same k _ _ (λ j l.
      clear_apart _ _ j base (page_to (suc (suc k)) base page)
      ∙ rw (
        own-extent k base (page_to (suc (suc k)) base page),
        extent-to base page (suc (suc k)) k (omega arith),
        extent-gone base page (suc (suc k)) j (omega arith) (omega arith),
        left-later (minor_at page) (edition_at page) base (plat_left_at base page) (page_section_at base page) k k (omega arith),
        left-before (minor_at page) (edition_at page) base (plat_left_at base page) (page_section_at base page) k j l,
      ))

  stays-to : k < section_count (edition_at page) →
      stays_at (minor_at page) (edition_at page) base k (plat_extent (plat_left_at base page)).from (plat_extent (plat_left_at base page)).to
      (page_to (suc (suc k)) base page) ≡ keeps_at base page k
  unfolding stays_at keeps_at keeps_section stays plat_clear
  stays-to m =
      rw (
        ok-to base page (suc (suc k)) k (omega arith),
        before-to m,
        clear_apart (plat_extent (plat_left_at base page)).from (plat_extent (plat_left_at base page)).to k base
            (page_to (suc (suc k)) base page),
        extent-to base page (suc (suc k)) k (omega arith),
        left-later (minor_at page) (edition_at page) base (plat_left_at base page) (page_section_at base page) k k (omega arith),
      )

  pub goes_to : section_goes (minor_at page) (edition_at page) base (fields_left (plat_kept (edition_at page) base (platform_at base page))) k
      (page_to (suc (suc k)) base page) ≡ changed base page (suc (suc k))
  unfolding section_goes fields_at changed plat_left_at
  goes_to = rw (left-fields (edition_at page) base (platform_at base page)) (both-then (ltb k (section_count (edition_at page))) _ _ (λ h. ap not (stays-to (ltb-true _ _ h))))
