-- A packed page shows what the page before it shows, and packs to itself. Assumes nothing.
use Rattle.std.proofs.Common.{◌≡◌, ℕ, ◌-◌, ◌*◌, ◌<◌, ◌≤◌, min, Bool, true, false, cond, eqb, leb, List, [], ◌∷◌, length, ℤ, refl, ap, ◌∙◌, inl, inr, not-suc-le-zero, mul-pos, arith, lit≤, le-ltb, lt-ltb, eq-eqb, ne_eqb, le-leb, leb-true}
use mathlib.Core.Path.{fun_ext}
use native.Mathlib.Decide.{dec_lt}
use borrow.Author.Tests.{lt-leb}
use Rattle.words.specs.Tests.{Yes, both}
use Rattle.words.specs.Word.{part, word_at, bytes_of, are_words}
use Rattle.words.proofs.Tests.{every_of}
use Rattle.words.proofs.Bytes.{Bytes, bytes-part, words-read, words_back}
use Rattle.versions.specs.Edition.{section_count, edition_ok}
use Rattle.versions.proofs.Editions.{edition-of, edition-range}
use Rattle.entries.specs.Entry.{words_per_entry, size}
use Rattle.entries.proofs.Flags.{shown-plain}
use Rattle.fields.specs.Fields.{Field, FieldShown, raw, withdrawn, shown_field, shown_fields, fields_in, fields_described}
use Rattle.fields.proofs.Scans.{part_length}
use Rattle.sections.specs.Page.{place_ok, count_at, pointer_at, in_page, array_at, page_section_at, page_section, page_platform, found_at, platform_at}
use Rattle.sections.specs.Section.{words_in, rules_at}
use Rattle.sections.proofs.Sections.{placed, range-low, range-high, array-in, ok-in-range, rules-at}
use Rattle.reader.specs.Answer.{Shown, empty, full, PlatShown, ReaderAnswer, refused, shows, minus, shown, shown_sec, plat_shown, reader_gate}
use Rattle.reader.specs.Answer.{judge, read_of}
use Rattle.reader.proofs.Newer.{newer-accepts}
use Rattle.reader.proofs.Views.{shows-page}
use Rattle.writer_rules.specs.Write.{Made, no-page, a-page, write_of, description_fits, shown_list, described, plat_described}
use Rattle.writer_rules.specs.Wrote.{page_after}
use Rattle.writer_rules.proofs.Checks.{w-place}
use Rattle.writer_rules.proofs.Round.{round}
use Rattle.pack.specs.Pack.{fields_kept, shown_description, Packed, stopped, written, packed_from, pack_of, target_after}
use Rattle.pack.specs.Packer.{remaining, repacked}
use Rattle.pack.proofs.Fields.{kept_of}
use Rattle.pack.proofs.Made.{per_pos, told_by, Each, told_none, told-some, told-each, words-length, told-scanned, opened}

-- ---- the fields
-- the kept fields are shown as the remaining ones
remains : (fs : List Field) → shown_fields (kept_of fs) ≡ remaining (shown_fields fs)
unfolding remaining shown_fields kept_of shown_field
remains [] = refl
remains (f ∷ fs) = go (eqb f.tag 3) refl (remains fs)
  where
    go : (b : Bool) → eqb f.tag 3 ≡ b → shown_fields (kept_of fs) ≡ remaining (shown_fields fs) →
        shown_fields (cond b (kept_of fs) (f ∷ kept_of fs)) ≡ remaining (cond b withdrawn (raw f.tag f.value) ∷ shown_fields fs)
    go true e r = r
    go false e r = rw (e, r)

-- and all remaining ones are kept
kept-remaining : (fs : List FieldShown) → fields_kept (remaining fs) ≡ fields_kept fs
unfolding fields_kept remaining
kept-remaining [] = refl
kept-remaining (raw t v ∷ fs) = rw (kept-remaining fs)
kept-remaining (withdrawn ∷ fs) = kept-remaining fs

-- ---- a list that has words is shown with them and their bytes
list_full : (ws : List ℕ) → 0 < length ws → shown_list ws ≡ full ws (bytes_of ws)
unfolding shown_list
list_full [] h = absurd (not-suc-le-zero h)
list_full (w ∷ ws) h = refl

list-none : shown_list [] ≡ empty
unfolding shown_list
list-none = refl

-- ---- one section of a page whose rules hold
module _ (base : ℕ) (page : List ℕ) (w : ℕ) (early : w ≤ 4) (t : rules_at w w base page ≡ true) (b : Bytes page)
    (n : length page ≡ 4096) where
  section-bytes : (k : ℕ) → Bytes (page_section_at base page k).bytes
  unfolding page_section_at page_section array_at
  section-bytes k = go (in_page base (pointer_at k page) (size k (count_at k page)))
    where
      go : (c : Bool) → Bytes (cond c (part (pointer_at k page - base) (size k (count_at k page)) page) [])
      go true = bytes-part _ _ page b
      go false = λ i. lit≤ tt

  told-words : (k : ℕ) → Each base page w k → Yes (are_words ((told_by base page w).lists k))
  unfolding are_words words_in
  told-words k (inl e) = rw e
  told-words k (inr e) = rw e.2 (words-read _ _ (section-bytes k))

  pub told-fits : Yes (description_fits (told_by base page w))
  unfolding description_fits
  told-fits = every_of 4 _ (λ k l. told-words k (told-each base page w early t k))

  module _ (k : ℕ) (l : k < section_count w) where
    bytes-length : 0 < count_at k page → length (page_section_at base page k).bytes ≡ 8 * (words_per_entry k * count_at k page)
    unfolding page_section_at page_section size
    bytes-length c =
        let g = ok-in-range w w base k page (rules-at w w base page t k l) (λ z. omega arith) in
        let lo = range-low w base k (count_at k page) (pointer_at k page) g in
        let hi = range-high w base k (count_at k page) (pointer_at k page) g in
        rw (array-in w base k (count_at k page) (pointer_at k page) g page) (part_length (pointer_at k page - base) _ page (omega arith))

    bytes_back : 0 < count_at k page → bytes_of (words_in k (page_section_at base page k)) ≡ (page_section_at base page k).bytes
    unfolding words_in page_section_at page_section
    bytes_back c = words_back (words_per_entry k * count_at k page) (page_section_at base page k).bytes (section-bytes k) (bytes-length c)

    full-again : 0 < count_at k page → shown_sec w k (page_section_at base page k) ≡ full (words_in k (page_section_at base page k))
        (page_section_at base page k).bytes
    unfolding shown_sec page_section_at page_section
    full-again c = rw (ne_eqb (count_at k page) 0 (λ z. omega arith), shown-plain w k early (words_in k (page_section_at base page k)))

    empty-again : count_at k page ≡ 0 → shown_sec w k (page_section_at base page k) ≡ empty
    unfolding shown_sec page_section_at page_section
    empty-again c = rw (eq-eqb (count_at k page) 0 c)

    list-again : shown_list ((told_by base page w).lists k) ≡ shown_sec w k (page_section_at base page k)
    list-again = go (dec_lt 0 (count_at k page))
      where
        go : Dec (0 < count_at k page) → shown_list ((told_by base page w).lists k) ≡ shown_sec w k (page_section_at base page k)
        go (no c) = rw (told_none base page w early t k l (omega arith), empty-again (omega arith)) list-none
        go (yes c) =
            rw (told-some base page w early t k l c, full-again c)
            (list_full (words_in k (page_section_at base page k)) (rw (words-length base page w early t k) (mul-pos (per_pos k) c)) ∙
            ap (full (words_in k (page_section_at base page k))) (bytes_back c))

  -- its description is what was shown
  pub shown-again : described w (told_by base page w) ≡ (λ k. shown w w k (page_section_at base page k))
  unfolding described shown
  shown-again = fun_ext (λ k. go k (dec_lt k (section_count w)))
    where
      go : (k : ℕ) → Dec (k < section_count w) → described w (told_by base page w) k ≡ shown w w k (page_section_at base page k)
      go k (yes l) = rw (lt-ltb k (section_count w) l) (list-again k l)
      go k (no l) = rw (le-ltb k (section_count w) (omega arith))

-- ---- a page that was made
plat-is : (x y : PlatShown) → x.pointer ≡ y.pointer → x.fields ≡ y.fields → x ≡ y
plat-is x y a f = ap (λ p. record { pointer = p; fields = x.fields }) a ∙ ap (λ l. record { pointer = y.pointer; fields = l }) f

-- only readers of editions 1 to 4 read it
no-edition : (r base : ℕ) (page : List ℕ) → Yes (place_ok base (length page)) → edition_ok r ≡ false → read_of r base page ≡ refused (minus 6)
unfolding read_of judge reader_gate both
no-edition r base page p e = rw (p, e)

-- for a page that a reader of edition 4 accepts, and the page p that the writer makes from what it shows
module _ (base n : ℕ) (page p : List ℕ) (b : Bytes page) (w e : ℕ) (q : PlatShown) (s : ℕ → Shown)
    (h : read_of 4 base page ≡ shows w e q s) (early : w ≤ 4)
    (m : write_of base n w (shown_description q s) ≡ a-page p) where
  before : Yes (place_ok base (length page)) × (1 ≤ w) × (rules_at w w base page ≡ true) × (shown_description q s ≡ told_by base page w)
      × (plat_shown (platform_at base page) ≡ q) × ((λ k. shown w w k (page_section_at base page k)) ≡ s)
  before = opened base page w e q s h early

  plat-again : (plat_described base w (shown_description q s)).fields ≡ remaining q.fields
  unfolding plat_described fields_described plat_shown platform_at page_platform
  plat-again =
      rw (before.3, told-scanned base page w early before.2, ← before.4) (remains (fields_in (found_at base page (word_at 8 page))))

  described-again : described w (shown_description q s) ≡ s
  described-again = rw before.3 (shown-again base page w early before.2 b (placed base (length page) before.0).0 ∙ before.5)

  told-small : Yes (description_fits (shown_description q s))
  told-small = rw before.3 (told-fits base page w early before.2 b (placed base (length page) before.0).0)

  written-shows : read_of 4 base p ≡ shows w w (plat_described base w (shown_description q s)) s
  written-shows =
      let k : min 4 w ≡ w = omega arith in
      let r = round base n w (shown_description q s) p told-small m 4 (edition-of 4 (lit≤ tt) (lit≤ tt)) in
      rw (k, described-again) at r

  -- a reader of edition 4 shows the same, apart from the pointer and withdrawn fields
  newest-same : read_of 4 base p ≡ shows w w (record { pointer = word_at 8 p; fields = remaining q.fields }) s
  newest-same =
      let v = shows-page 4 base p w w (plat_described base w (shown_description q s)) s written-shows in
      written-shows ∙ ap (λ x. shows w w x s) (plat-is _ _ v.plat plat-again)

  -- and so does one of any edition
  pub reader-same : (r : ℕ) → read_of r base p ≡ repacked (word_at 8 p) (read_of r base page)
  unfolding repacked
  reader-same r = go (edition_ok r) refl
    where
      go : (c : Bool) → edition_ok r ≡ c → read_of r base p ≡ repacked (word_at 8 p) (read_of r base page)
      go true c =
          let a = edition-range r c in
          rw (newer-accepts r 4 a.0 a.1 (lit≤ tt) base page w e q s h)
          (newer-accepts r 4 a.0 a.1 (lit≤ tt) base p w w _ s newest-same)
      go false c = rw (no-edition r base page before.0 c) (no-edition r base p (opened base p w w _ s newest-same early).0 c)

  retold-again : shown_description (record { pointer = word_at 8 p; fields = remaining q.fields }) s ≡ shown_description q s
  unfolding shown_description
  retold-again = rw (kept-remaining q.fields)

  -- packing it again makes the same page
  pub packs-again : pack_of base n p ≡ written (a-page p)
  unfolding pack_of packed_from
  packs-again = rw (newest-same, le-leb w 4 early, retold-again) (ap written m)

-- ---- the packer's answer
never-written : {P : Type 0} {c : ℤ} {m : Made} → stopped c ≡ written m → P
never-written h = absurd (let z : ◌≡◌ {A = ℕ} 0 1 = cc in let y : ⊥ = omega arith in y)

cond-written : (c : Bool) (m : Made) (z : ℤ) (p : List ℕ) → cond c (written m) (stopped z) ≡ written (a-page p) →
    (c ≡ true) × (m ≡ a-page p)
cond-written true m z p h = (refl, cc)
cond-written false m z p h = never-written h

-- if a page was made, the old one was accepted, has a minor up to 4, and the new one is the writer's
made_by : (base n : ℕ) (a : ReaderAnswer) (p : List ℕ) {P : Type 0} → packed_from base n a ≡ written (a-page p) →
    ((w e : ℕ) (q : PlatShown) (s : ℕ → Shown) → a ≡ shows w e q s → w ≤ 4 → write_of base n w (shown_description q s) ≡ a-page p → P) → P
unfolding packed_from
made_by base n (refused c) p h k = never-written h
made_by base n (shows w e q s) p h k =
    let c = cond-written (leb w 4) (write_of base n w (shown_description q s)) (minus 6) p h in k w e q s refl (leb-true w 4 c.0) c.1

module _ (base n : ℕ) (page p : List ℕ) (b : Bytes page) (h : pack_of base n page ≡ written (a-page p)) where
  pub pack-same : (r : ℕ) → read_of r base p ≡ repacked (word_at 8 p) (read_of r base page)
  unfolding pack_of
  pack-same r = made_by base n (read_of 4 base page) p h (λ w e q s a l m. reader-same base n page p b w e q s a l m r)

  pub pack-again : pack_of base n p ≡ written (a-page p)
  unfolding pack_of
  pack-again = made_by base n (read_of 4 base page) p h (λ w e q s a l m. packs-again base n page p b w e q s a l m)

-- ---- the refusals, in order
pub pack-stops : (base n : ℕ) (page : List ℕ) (c : ℤ) → read_of 4 base page ≡ refused c → pack_of base n page ≡ stopped c
unfolding pack_of packed_from
pack-stops base n page c h = rw h

module _ (base n : ℕ) (page : List ℕ) (w e : ℕ) (q : PlatShown) (s : ℕ → Shown) (h : read_of 4 base page ≡ shows w e q s) where
  pub pack-late : 4 < w → pack_of base n page ≡ stopped (minus 6)
  unfolding pack_of packed_from
  pack-late l = rw (h, lt-leb w 4 l)

  pub pack-target : w ≤ 4 → (n ≡ 4096 → ⊥) → pack_of base n page ≡ written (no-page 1)
  unfolding pack_of packed_from place_ok both
  pack-target l t = rw (h, le-leb w 4 l) (ap written (w-place base n w (shown_description q s) (rw (ne_eqb n 4096 t))))

pub pack-untouched : (lent : List ℕ) (m : Packed) → ((p : List ℕ) → m ≡ written (a-page p) → ⊥) → target_after lent m ≡ lent
unfolding target_after page_after
pack-untouched lent (stopped c) h = refl
pack-untouched lent (written (no-page k)) h = refl
pack-untouched lent (written (a-page p)) h = absurd (h p refl)
