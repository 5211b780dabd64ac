-- The packer's answer, return by return, and what the code may rely on for an accepted page. Assumes nothing.
use Rattle.std.proofs.Common.{◌≡◌, ℕ, zero, suc, ◌+◌, ◌-◌, ◌*◌, ◌%◌, ◌<◌, ◌≤◌, true, leb, ◌⊎◌, List, [], length, sym, refl, ap, ◌∙◌, inl, inr, arith, ltb-true, eq-eqb, ne_eqb, eqb-true, le-leb, leb-true, Ok, Err}
use mathlib.Core.Path.{fun_ext}
use native.Mathlib.Decide.{dec_lt}
use Rattle.words.specs.Tests.{Yes}
use Rattle.words.specs.Word.{word_at, words_of}
use Rattle.words.proofs.Tests.{both_l, both_r, both_of, either-cases}
use Rattle.versions.specs.Edition.{section_count, core}
use Rattle.entries.specs.Entry.{words_per_entry, size, check_ok}
use Rattle.entries.specs.Array.{words_at, sound_of}
use Rattle.entries.proofs.Entries.{not-zero}
use Rattle.fields.specs.Fields.{fields_in, shown_fields, taken}
use Rattle.fields.specs.Steps.{fields_from}
use Rattle.std.proofs.Common.{Some}
use Rattle.fields.proofs.Walks.{from_out, from_told}
use Rattle.sections.specs.Page.{count_at, pointer_at, check_at, in_page, page_section, page_section_at, page_platform, found_at, platform_at}
use Rattle.sections.specs.Section.{nothing, section_ok, words_in, platform_ok, rules_at}
use Rattle.sections.specs.Steps.{ok_at, plat_end}
use Rattle.sections.proofs.Sections.{placed, range-low, range-high, array-in, ok-in-range, rules-at, rules-pointer, plat-in}
use Rattle.sections.proofs.Room.{array_lies}
use Rattle.reader.specs.Answer.{Shown, PlatShown, shows, minus, read_of}
use Rattle.reader.specs.Reading.{refusal_number, reading_answer, view_at, reading_of}
use Rattle.reader.specs.Fast.{verdict_of}
use Rattle.reader.specs.declared.Refusal.{Refusal}
use Rattle.std.specs.Prelude.{Ok, Err}
use Rattle.reader.proofs.Whole.{reading-answer, refused-reads, fine-reads}
use Rattle.writer_checks.specs.Description.{Description, used}
use Rattle.writer_rules.specs.Write.{no-page, a-page, page_of}
use Rattle.writer_rules.specs.Wrote.{page_after}
use Rattle.pack.specs.Pack.{fields_kept, shown_description, Packed, stopped, written, pack_of, packed_by, target_after, packed_number}
use Rattle.pack.specs.Pack.{Packing, packing_number}
use Rattle.pack.specs.Steps.{array_words_in, Movable, fields_place, kept_from, shown_description_at}
use Rattle.pack.specs.declared.PackError.TheVariants as pack_error
use Rattle.pack.proofs.Made.{told_by, told-late, told_none, told-some, told-fields, told-room, opened, pack-page}
use Rattle.pack.proofs.Packed.{pack-stops, pack-late, pack-target}
use Rattle.pack.proofs.Whole.{list-in, list-out}

-- ---- a section whose rule holds can be moved
size-some : (k c : ℕ) → (c ≡ 0 → ⊥) → 0 < size k c
unfolding size words_per_entry
size-some zero c h = omega (arith, not-zero c h)
size-some (suc zero) c h = omega (arith, not-zero c h)
size-some (suc (suc k)) c h = omega (arith, not-zero c h)

module _ (w e base : ℕ) (page : List ℕ) (n : length page ≡ 4096) (m : base % 4096 ≡ 0) (k : ℕ) (o : ok_at w e base k page ≡ true) where
  -- its array's place
  pub array-place : (count_at k page ≡ 0 → ⊥) → pointer_at k page - base ≡ pointer_at k page % 4096
  array-place z =
      let g = ok-in-range w e base k page o z in
      let l = range-low e base k (count_at k page) (pointer_at k page) g in
      let h = range-high e base k (count_at k page) (pointer_at k page) g in
      let s = size-some k (count_at k page) z in
      omega arith

  array-words : (count_at k page ≡ 0 → ⊥) → words_in k (page_section_at base page k) ≡ array_words_in page k
  unfolding words_in page_section_at page_section array_words_in words_at
  array-words z = rw (array-in e base k (count_at k page) (pointer_at k page) (ok-in-range w e base k page o z) page, array-place z)

  moved-sums : (count_at k page ≡ 0 → ⊥) → Yes (check_ok (count_at k page) (pointer_at k page) (words_in k (page_section_at base page k))
      (check_at k page))
  unfolding ok_at section_ok page_section_at page_section nothing sound_of
  moved-sums z =
      either-cases _ _ (λ b. absurd (z (eqb-true _ _ (both_l _ _ b)))) (λ b. both_l _ _ (both_r _ _ (both_r _ _ (both_r _ _ b)))) o

  moved_inside : (size k (count_at k page) ≡ 0) ⊎ ((base + core e ≤ pointer_at k page) ×
      (pointer_at k page + size k (count_at k page) ≤ base + 4096)) →
      pointer_at k page % 4096 + size k (count_at k page) ≤ length page
  moved_inside (inl z) = omega arith
  moved_inside (inr z) = omega (arith, z.0, z.1)

  pub movable : Movable page k
  movable = record { inside = moved_inside (array_lies w e base page k o); sums = λ z. rw (array-words z) at (moved-sums z) }

-- ---- a walk over the fields passes exactly those that the reader found
place-by : (base q : ℕ) (page : List ℕ) → q ≡ 0 → fields_in (found_at base page q) ≡ []
unfolding found_at fields_in
place-by base q page z = rw (eq-eqb q 0 z)

plat-range : (e base q : ℕ) (page : List ℕ) → (q ≡ 0 → ⊥) → platform_ok e base (page_platform q (found_at base page q)) ≡ true →
    (base + core e ≤ q) × (q < base + 4096)
unfolding platform_ok page_platform
plat-range e base q page z h =
    either-cases _ _ (λ b. absurd (z (eqb-true _ _ b))) (λ b. (leb-true _ _ (both_l _ _ b), ltb-true _ _ (both_l _ _ (both_r _ _ b)))) h

plat-told : (e base q : ℕ) (page : List ℕ) → platform_ok e base (page_platform q (found_at base page q)) ≡ true →
    plat_end e base (page_platform q (found_at base page q)) ≡ Some (taken (found_at base page q))
unfolding plat_end page_platform
plat-told e base q page h = rw h

found_in : (e base q : ℕ) (page : List ℕ) → (q ≡ 0 → ⊥) → base % 4096 ≡ 0 →
    platform_ok e base (page_platform q (found_at base page q)) ≡ true → fields_from (q % 4096) page ≡ fields_in (found_at base page q)
unfolding found_at in_page
found_in e base q page z m h =
    let r = plat-range e base q page z h in
    let x : q % 4096 ≡ q - base = omega arith in
    rw (
      x,
      ne_eqb q 0 z,
      both_of (leb base q) (leb (q + 1) (base + 4096)) (le-leb base q (omega arith))
          (le-leb (q + 1) (base + 4096) (omega arith)),
    )
    (from_told (q - base) page _ (sym (plat-in e base q page z r.0 r.1) ∙ plat-told e base q page h))

module _ (w e base : ℕ) (page : List ℕ) (n : length page ≡ 4096) (m : base % 4096 ≡ 0) (t : rules_at w e base page ≡ true) where
  fields-kept : Dec (0 < word_at 8 page) → fields_from (fields_place page) page ≡ fields_in (found_at base page (word_at 8 page))
  unfolding fields_place platform_at
  fields-kept (no z) =
      let y : word_at 8 page ≡ 0 = omega arith in
      rw (eq-eqb (word_at 8 page) 0 y) (from_out (length page) page (omega arith) ∙ sym (place-by base (word_at 8 page) page y))
  fields-kept (yes z) =
      let y : (word_at 8 page ≡ 0 → ⊥) = λ q. omega arith in
      rw (ne_eqb (word_at 8 page) 0 y) (found_in e base (word_at 8 page) page y m (rules-pointer w e base page t))

-- ---- what is shown is what the code passes to the writer
array-none : (page : List ℕ) (k : ℕ) → count_at k page ≡ 0 → array_words_in page k ≡ []
unfolding array_words_in words_at words_of
array-none page k z = rw (z, (let e : words_per_entry k * 0 ≡ 0 = omega arith in e))

module _ (base : ℕ) (page : List ℕ) (w : ℕ) (early : w ≤ 4) (n : length page ≡ 4096) (m : base % 4096 ≡ 0)
    (t : rules_at w w base page ≡ true) where
  told-list : (k : ℕ) → (told_by base page w).lists k ≡ (shown_description_at w page).lists k
  told-list k = go (dec_lt k (section_count w)) (dec_lt 0 (count_at k page))
    where
      go : Dec (k < section_count w) → Dec (0 < count_at k page) → (told_by base page w).lists k ≡ (shown_description_at w page).lists k
      go (no l) z = told-late base page w early t k (omega arith) ∙ sym (list-out w page k (omega arith))
      go (yes l) (no z) = told_none base page w early t k l (omega arith) ∙ sym (list-in w page k l ∙ array-none page k (omega arith))
      go (yes l) (yes z) =
          told-some base page w early t k l z ∙ array-words w w base page n m k (rules-at w w base page t k l) (λ x. omega arith) ∙
          sym (list-in w page k l)

  told-kept : (told_by base page w).fields ≡ (shown_description_at w page).fields
  unfolding shown_description_at kept_from
  told-kept =
      told-fields base page w early t ∙ ap (λ fs. fields_kept (shown_fields fs))
      (sym (fields-kept w w base page n m t (dec_lt 0 (word_at 8 page))))

  told_same : told_by base page w ≡ shown_description_at w page
  unfolding told_by shown_description shown_description_at
  told_same =
      ap {B = Description} (λ (l : ℕ → List ℕ). record { lists = l; fields = (told_by base page w).fields }) (fun_ext told-list)
      ∙ ap {B = Description} (λ (fs : List ℕ). record { lists = (shown_description_at w page).lists; fields = fs }) told-kept

-- ---- by the verdict on the page
module _ (base : ℕ) (page : List ℕ) where
  pub refused-packs : (n : ℕ) (c : Refusal) → Err c ≡ verdict_of (reading_of 4 base page) →
      pack_of base n page ≡ stopped (refusal_number c)
  unfolding reading_answer
  refused-packs n c h =
      pack-stops base n page (refusal_number c) (sym (reading-answer 4 base page) ∙
      ap (reading_answer page) (sym (refused-reads 4 base page c h)))

  module _ (w : ℕ) (h : Ok w ≡ verdict_of (reading_of 4 base page)) where
    fine-shown : {P : Type 0} → ((e : ℕ) (q : PlatShown) (s : ℕ → Shown) → read_of 4 base page ≡ shows w e q s → P) → P
    unfolding reading_answer view_at
    fine-shown k = k _ _ _ (sym (reading-answer 4 base page) ∙ ap (reading_answer page) (sym (fine-reads 4 base page w h).2))

    pub late-packs : (n : ℕ) → 4 < w → pack_of base n page ≡ stopped (minus 6)
    late-packs n l = fine-shown (λ e q s r. pack-late base n page w e q s r l)

    pub target-packs : (n : ℕ) → w ≤ 4 → (n ≡ 4096 → ⊥) → pack_of base n page ≡ written (no-page 1)
    target-packs n l z = fine-shown (λ e q s r. pack-target base n page w e q s r l z)

    -- what the code makes is the page that the writer makes
    pub page-packs : (n : ℕ) → w ≤ 4 → n ≡ 4096 → pack_of base n page ≡ written (a-page (page_of base w (shown_description_at w page)))
    page-packs n l z =
        fine-shown (λ e q s r.
        let o = opened base page w e q s r l in
        let p = placed base (length page) o.0 in
        rw z (pack-page base page w e q s r l) ∙ ap (λ (d : Description). written (a-page (page_of base w d)))
        (o.3 ∙ told_same base page w l p.0 p.2 o.2))

    -- and the page has all that the code needs
    pub page-ready : w ≤ 4 → (length page ≡ 4096) × (base ≤ 0x10_0000_0000_0000) × ((k : ℕ) → k < section_count w → Movable page k) ×
        (used w (shown_description_at w page) ≤ 4096)
    page-ready l =
        fine-shown (λ e q s r.
        let o = opened base page w e q s r l in
        let p = placed base (length page) o.0 in (
          p.0,
          omega arith,
          (λ k m. movable w w base page p.0 p.2 k (rules-at w w base page o.2 k m)),
          rw (← told_same base page w l p.0 p.2 o.2) (told-room base page w l o.2 p.0),
        ))

-- ---- after a refusal the target is unchanged, otherwise it is the page made
pub packs-not : {F : Type 0} (r : Packing) (target : List ℕ) (m x : Packed) → packed_by target r ≡ x → target ≡ target_after target x →
    m ≡ x → F →
    (packed_by target r ≡ m) × ((target ≡ target_after target m) × F)
packs-not r target m x h g e f = rw e (h, (g, f))

pub packs-page : {F : Type 0} (before after p : List ℕ) (m : Packed) → m ≡ written (a-page p) → after ≡ p → F →
    (packed_by after (Ok tt) ≡ m) × ((after ≡ target_after before m) × F)
unfolding packed_by target_after page_after
packs-page before after p m e g f = rw e (ap (λ (x : List ℕ). written (a-page x)) g, (g, f))

-- ---- the number of an answer is the number of its meaning
number_by : (target : List ℕ) (r : Packing) → packing_number r ≡ packed_number (packed_by target r)
unfolding packing_number packed_number packed_by
number_by target (Ok u) = refl
number_by target (Err (pack_error.Refused c)) = refl
number_by target (Err pack_error.Target) = refl

pub packed-number : (target : List ℕ) (r : Packing) (m : Packed) → packed_by target r ≡ m → packing_number r ≡ packed_number m
packed-number target r m h = number_by target r ∙ ap packed_number h
