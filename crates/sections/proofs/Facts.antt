-- The tests of sections and platform data hold exactly if the plain facts do. Assumes nothing.
use Prim.Native.Nat.{ℕ, ◌+◌, ◌-◌, ◌*◌, ◌%◌, ◌^◌, ◌≤◌, ◌<◌}
use mathlib.Core.Path.{◌≡◌, refl, sym, ap, ◌∙◌}
use mathlib.Core.Bool.{true, false≢true}
use mathlib.Core.Logic.{◌⊎◌, inl, inr, ⊎_elim}
use mathlib.Core.List.{List, []}
use native.Mathlib.Omega.{arith}
use lib.ListN.{drop}
use lib.Dec.{leb}
use borrow.Author.Tests.{leb-true, ltb-true, eqb-true, le-leb, lt-ltb, eq-eqb, ne_eqb}
use Rattle.words.specs.Tests.{Yes, either}
use Rattle.words.specs.Word.{word_at, words_of}
use Rattle.words.proofs.Tests.{both_l, both_r, both_of, either_l, either_r, either-cases}
use Rattle.versions.specs.Edition.{core}
use Rattle.entries.specs.Entry.{words_per_entry, size}
use Rattle.entries.specs.Array.{words_at, sound_of}
use Rattle.entries.proofs.Facts.{sound-acts, sound-only}
use Rattle.fields.specs.Fields.{Field, Scanned, broken, ended, bare, fields_in, is_ended, taken, scan_of}
use Rattle.fields.proofs.Facts.{ended-acts, ended-only}
use Rattle.sections.specs.Page.{place_ok, count_at, pointer_at, check_at, in_page, array_at, page_section, page_section_at, page_platform}
use Rattle.sections.specs.Page.{found_at, platform_at}
use Rattle.sections.specs.Section.{platform_ok, words_in, nothing, in_range, section_ok}
use Rattle.sections.specs.Steps.{ok_at, end_of, apart_at, clear_at}
use Rattle.sections.specs.Facts.{PlaceFacts, ArrayFacts, SectionFacts, ApartFacts, PlatFacts}
use Rattle.sections.proofs.Sections.{range-low, range-high, array-in}

pub place-acts : (base n : ℕ) → PlaceFacts base n → Yes (place_ok base n)
unfolding place_ok
place-acts base n t = both_of _ _ (eq-eqb n 4096 t.0) (both_of _ _ (lt-ltb 0 base t.1) (both_of _ _ (eq-eqb (base % 4096) 0 t.2) (le-leb base (2 ^ 52 - 4096) t.3)))

-- ---- one section by itself
module _ (w e base k : ℕ) (page : List ℕ) where
  array-acts : ArrayFacts w e base page k (count_at k page) (pointer_at k page) (check_at k page) → ok_at w e base k page ≡ true
  unfolding ok_at section_ok page_section_at page_section words_in words_at in_range
  array-acts t =
      let g : in_range e base k (count_at k page) (pointer_at k page) ≡ true = both_of _ _
      (le-leb (base + core e) (pointer_at k page) t.behind)
      (le-leb (pointer_at k page + size k (count_at k page)) (base + 4096) t.before) in
      either_r _ _ (both_of _ _ g (rw (array-in e base k (count_at k page) (pointer_at k page) g page)
      (sound-acts w k (count_at k page) (pointer_at k page) (check_at k page) (pointer_at k page - base) page t.counted t.align
      t.checksum t.entries)))

  array-only : in_range e base k (count_at k page) (pointer_at k page) ≡ true →
      Yes (sound_of w k (count_at k page) (pointer_at k page) (check_at k page) (words_at k (count_at k page) (pointer_at k page - base) page)) →
      ArrayFacts w e base page k (count_at k page) (pointer_at k page) (check_at k page)
  array-only g h =
      let s = sound-only w k (count_at k page) (pointer_at k page) (check_at k page) (pointer_at k page - base) page h in
      record {
        counted = s.0;
        align = s.1;
        behind = range-low e base k (count_at k page) (pointer_at k page) g;
        before = range-high e base k (count_at k page) (pointer_at k page) g;
        checksum = s.2;
        entries = s.3;
      }

  pub section-acts : SectionFacts w e base page k → ok_at w e base k page ≡ true
  unfolding ok_at section_ok page_section_at page_section nothing
  section-acts t =
      ⊎_elim
      (λ z. either_l _ _ (both_of _ _ (eq-eqb (count_at k page) 0 z.0)
      (both_of _ _ (eq-eqb (pointer_at k page) 0 z.1) (eq-eqb (check_at k page) 0 z.2))))
      array-acts t

  pub section-only : ok_at w e base k page ≡ true → SectionFacts w e base page k
  unfolding ok_at section_ok page_section_at page_section nothing words_in words_at
  section-only h =
      either-cases _ _
      (λ z. inl (eqb-true _ _ (both_l _ _ z), eqb-true _ _ (both_l _ _ (both_r _ _ z)), eqb-true _ _ (both_r _ _ (both_r _ _ z))))
      (λ z.
      let g = both_l _ _ z in
      let y : Yes (sound_of w k (count_at k page) (pointer_at k page) (check_at k page)
      (words_of (words_per_entry k * count_at k page) (array_at base page (pointer_at k page) (size k (count_at k page))))) = both_r _ _ z in
      inr (array-only g (rw (array-in e base k (count_at k page) (pointer_at k page) g page) at y)))
      h

-- ---- two ranges
leb-acts : (a b c d : ℕ) → (a ≤ b) ⊎ (c ≤ d) → Yes (either (leb a b) (leb c d))
leb-acts a b c d t = ⊎_elim (λ l. either_l _ _ (le-leb a b l)) (λ l. either_r _ _ (le-leb c d l)) t

leb-only : (a b c d : ℕ) → Yes (either (leb a b) (leb c d)) → (a ≤ b) ⊎ (c ≤ d)
leb-only a b c d h = either-cases _ _ (λ y. inl (leb-true a b y)) (λ y. inr (leb-true c d y)) h

module _ (i j : ℕ) (page : List ℕ) where
  pub apart-acts : ApartFacts i (count_at i page) (pointer_at i page) j (count_at j page) (pointer_at j page) → apart_at i j page ≡ true
  unfolding apart_at end_of
  apart-acts t = leb-acts _ _ _ _ t

  pub apart-only : apart_at i j page ≡ true → ApartFacts i (count_at i page) (pointer_at i page) j (count_at j page) (pointer_at j page)
  unfolding apart_at end_of
  apart-only h = leb-only _ _ _ _ h

module _ (from to k : ℕ) (page : List ℕ) where
  pub clear-acts : (to ≤ pointer_at k page) ⊎ (pointer_at k page + size k (count_at k page) ≤ from) → clear_at from to k page ≡ true
  unfolding clear_at end_of
  clear-acts t = leb-acts _ _ _ _ t

  pub clear-only : clear_at from to k page ≡ true → (to ≤ pointer_at k page) ⊎ (pointer_at k page + size k (count_at k page) ≤ from)
  unfolding clear_at end_of
  clear-only h = leb-only _ _ _ _ h

-- ---- the platform data
ended-told : (s : Scanned) → Yes (is_ended s) → s ≡ ended (fields_in s) (taken s)
unfolding is_ended fields_in taken
ended-told broken h = absurd (false≢true h)
ended-told (ended fs n) h = refl
ended-told (bare fs) h = absurd (false≢true h)

found_none : (base q : ℕ) (page : List ℕ) → q ≡ 0 → found_at base page q ≡ ended [] 0
unfolding found_at
found_none base q page z = rw (eq-eqb q 0 z)

module _ (e base q : ℕ) (page : List ℕ) (l : base + core e ≤ q) (u : q ≤ base + 4095) where
  found_in : found_at base page q ≡ scan_of (drop (q - base) page)
  unfolding found_at in_page core
  found_in =
      rw (
        ne_eqb q 0 (λ z. omega arith),
        both_of (leb base q) (leb (q + 1) (base + 4096)) (le-leb base q (omega arith))
            (le-leb (q + 1) (base + 4096) (omega arith)),
      )

module _ (e base : ℕ) (page : List ℕ) (fs : List Field) (n : ℕ) where
  pub plat-found : PlatFacts e base page fs n → found_at base page (word_at 8 page) ≡ ended fs n
  unfolding found_at
  plat-found t =
      ⊎_elim
      (λ z. found_none base (word_at 8 page) page z.0 ∙ rw (z.1, z.2))
      (λ z. found_in e base (word_at 8 page) page z.0 z.1 ∙ ended-acts (drop (word_at 8 page - base) page) fs n z.2 z.3) t

  pub plat-acts : PlatFacts e base page fs n → platform_ok e base (platform_at base page) ≡ true
  unfolding platform_ok platform_at page_platform is_ended
  plat-acts t =
      ⊎_elim
      (λ z. either_l _ _ (eq-eqb (word_at 8 page) 0 z.0))
      (λ z. either_r _ _ (both_of _ _ (le-leb (base + core e) (word_at 8 page) z.0)
      (both_of _ _ (lt-ltb (word_at 8 page) (base + 4096) (let u = z.1 in omega arith)) (rw (plat-found t) refl)))) t

pub plat-only : (e base : ℕ) (page : List ℕ) → platform_ok e base (platform_at base page) ≡ true →
    PlatFacts e base page (fields_in (found_at base page (word_at 8 page))) (taken (found_at base page (word_at 8 page)))
unfolding platform_ok platform_at page_platform fields_in taken
plat-only e base page h =
    let q = word_at 8 page in
    either-cases _ _
    (λ z. let y : q ≡ 0 = eqb-true _ _ z in let f = found_none base q page y in inl (y, ap fields_in f, ap taken f))
    (λ z.
    let l : base + core e ≤ q = leb-true _ _ (both_l _ _ z) in
    let u : q < base + 4096 = ltb-true _ _ (both_l _ _ (both_r _ _ z)) in
    let v : q ≤ base + 4095 = omega arith in
    let f = ended-told (found_at base page q) (both_r _ _ (both_r _ _ z)) in
    let t = ended-only (drop (q - base) page) _ _ (sym (found_in e base q page l v) ∙ f) in
    inr (l, v, t.0, t.1))
    h
