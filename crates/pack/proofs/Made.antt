-- What is shown of a page can be written again: the writer makes its page. Assumes nothing.
use Rattle.std.proofs.Common.{◌≡◌, ℕ, zero, suc, ◌*◌, ◌/◌, ◌%◌, ◌<◌, ◌≤◌, min, true, eqb, ltb, ◌⊎◌, List, [], ◌++◌, length, sym, refl, ap, ◌∙◌, inl, inr, arith, lit≤, length-append, le-ltb, lt-ltb, eq-eqb, ne_eqb, eqb-true, le-leb}
use native.Mathlib.Decide.{dec_lt, dec_le}
use native.Mathlib.Nat.{mul-mod_right, mul-div_right}
use Rattle.words.specs.Tests.{Yes, both, either}
use Rattle.words.specs.Word.{word_at, joined}
use Rattle.words.proofs.Tests.{both_l, both_r, both_of, either_l, either_r, either-cases, every_of}
use Rattle.words.proofs.Read.{words_of-length}
use Rattle.versions.specs.Edition.{section_count, core}
use Rattle.versions.proofs.Versions.{version-minor}
use Rattle.versions.proofs.Editions.{section-count-most, edition-of}
use Rattle.entries.specs.Entry.{words_per_entry, size, entries_ok}
use Rattle.entries.specs.Array.{sound_of}
use Rattle.entries.proofs.Entries.{per-range}
use Rattle.entries.proofs.Flags.{shown-plain}
use Rattle.fields.specs.Fields.{bare, scan_of, fields_in, fields_described, shown_fields, is_bare, describable, taken}
use Rattle.sections.specs.Page.{place_ok, version_at, count_at, page_section_at, page_section, found_at, page_platform, platform_at}
use Rattle.sections.specs.Section.{nothing, words_in, section_ok, rules_at}
use Rattle.sections.specs.Steps.{ok_at}
use Rattle.sections.proofs.Sections.{placed, rules-at}
use Rattle.sections.proofs.Spans.{added_up}
use Rattle.sections.proofs.Room.{span_length, arrays-fit}
use Rattle.reader.specs.Answer.{Shown, PlatShown, shows, shown, shown_sec, plat_shown, all_shown, judge, read_of}
use Rattle.reader.proofs.Newer.{gate-shows}
use Rattle.reader.proofs.Views.{shows-each}
use Rattle.writer_checks.specs.Description.{Description, list_ok, lists_ok, later_sections_empty, plat_bytes, used}
use Rattle.writer_checks.proofs.Described.{described-none}
use Rattle.writer_rules.specs.Write.{a-page, write_of, page_of}
use Rattle.writer_rules.proofs.Checks.{w-made}
use Rattle.pack.specs.Pack.{entries_in, fields_kept, shown_description, written, packed_from, pack_of}
use Rattle.pack.proofs.Fields.{kept_of, kept-told, kept-three, found-fits}

-- ---- a list of whole entries that keep their rule
pub per_pos : (k : ℕ) → 0 < words_per_entry k
per_pos k = omega (arith, per-range k)

pub some_words : (k c : ℕ) → (words_per_entry k * c % words_per_entry k ≡ 0) × (words_per_entry k * c / words_per_entry k ≡ c)
some_words k c = (mul-mod_right (words_per_entry k) c, mul-div_right c (per_pos k))

list_of : (w k c : ℕ) (ws : List ℕ) → length ws ≡ words_per_entry k * c → Yes (entries_ok w k c ws) → Yes (list_ok w k ws)
unfolding list_ok
list_of w k c ws e h = rw (e, (some_words k c).0, (some_words k c).1) (both_of _ _ refl h)

none-ok : (w k : ℕ) → Yes (list_ok w k [])
none-ok w k = list_of w k 0 [] (omega arith) (described-none w k [])

-- ---- lists one after another: as long as their parts, and empty ones add nothing
joined-most : (n : ℕ) (l : ℕ → List ℕ) (z : ℕ → ℕ) → ((k : ℕ) → k < n → 8 * length (l k) ≤ z k) → 8 * length (joined n l) ≤ added_up n z
unfolding joined added_up
joined-most zero l z h = lit≤ tt
joined-most (suc n) l z h = rw length-append (omega (arith, joined-most n l z (λ k m. h k (omega arith)), h n (omega arith)))

joined-late : (n m : ℕ) (l : ℕ → List ℕ) → m ≤ n → ((k : ℕ) → m ≤ k → length (l k) ≡ 0) → length (joined n l) ≡ length (joined m l)
unfolding joined
joined-late zero m l h e = rw (let z : m ≡ 0 = omega arith in z) refl
joined-late (suc n) m l h e = go (dec_le m n) (joined-late n m l)
  where
    go : Dec (m ≤ n) → (m ≤ n → ((k : ℕ) → m ≤ k → length (l k) ≡ 0) → length (joined n l) ≡ length (joined m l)) →
        length (joined n l ++ l n) ≡ length (joined m l)
    go (yes a) r = rw length-append (omega (arith, r a e, e n a))
    go (no a) r = rw (let z : m ≡ suc n = omega arith in z) refl

-- ---- the description that the writer gets for a page of minor w
unfoldable pub told_by : ℕ → List ℕ → ℕ → Description
told_by base page w = shown_description (plat_shown (platform_at base page)) (λ k. shown w w k (page_section_at base page k))

-- section k of it: no words, or those of an array that was read
abbrev pub Each : ℕ → List ℕ → ℕ → ℕ → Type 0
Each base page w k =
    ((told_by base page w).lists k ≡ [])
    ⊎ ((k < section_count w) × (0 < count_at k page) × ((told_by base page w).lists k ≡ words_in k (page_section_at base page k)))

module _ (base : ℕ) (page : List ℕ) (w : ℕ) (early : w ≤ 4) (t : rules_at w w base page ≡ true) where
  -- outside the edition nothing
  pub told-late : (k : ℕ) → section_count w ≤ k → (told_by base page w).lists k ≡ []
  unfolding told_by shown_description shown entries_in
  told-late k l = rw (le-ltb k (section_count w) l)

  -- within it nothing, or the words of an array that was read
  module _ (k : ℕ) (l : k < section_count w) where
    pub told_none : count_at k page ≡ 0 → (told_by base page w).lists k ≡ []
    unfolding told_by shown_description shown shown_sec entries_in page_section_at page_section
    told_none c = rw (lt-ltb k (section_count w) l, eq-eqb (count_at k page) 0 c)

    pub told-some : 0 < count_at k page → (told_by base page w).lists k ≡ words_in k (page_section_at base page k)
    unfolding told_by shown_description shown shown_sec entries_in page_section_at page_section
    told-some c =
        rw (
          lt-ltb k (section_count w) l,
          ne_eqb (count_at k page) 0 (λ z. omega arith),
          shown-plain w k early (words_in k (page_section_at base page k)),
        )

  pub told-each : (k : ℕ) → Each base page w k
  told-each k = go (dec_lt k (section_count w)) (dec_lt 0 (count_at k page))
    where
      go : Dec (k < section_count w) → Dec (0 < count_at k page) → Each base page w k
      go (no l) c = inl (told-late k (omega arith))
      go (yes l) (no c) = inl (told_none k l (omega arith))
      go (yes l) (yes c) = inr (l, c, told-some k l c)

  pub words-length : (k : ℕ) → length (words_in k (page_section_at base page k)) ≡ words_per_entry k * count_at k page
  unfolding words_in page_section_at page_section
  words-length k = words_of-length _ _

  read_ok : (k : ℕ) → k < section_count w → 0 < count_at k page → Yes (entries_ok w k (count_at k page) (words_in k (page_section_at base page k)))
  unfolding ok_at section_ok page_section_at page_section nothing sound_of
  read_ok k l c =
      either-cases _ _
      (λ n. absurd (let z : count_at k page ≡ 0 = eqb-true _ _ (both_l _ _ n) in let y : ⊥ = omega arith in y))
      (λ b. both_r _ _ (both_r _ _ (both_r _ _ (both_r _ _ b))))
      (rules-at w w base page t k l)

  told-list : (k : ℕ) → Each base page w k → Yes (list_ok w k ((told_by base page w).lists k))
  told-list k (inl e) = rw e (none-ok w k)
  told-list k (inr e) =
      rw e.2 (list_of w k (count_at k page) (words_in k (page_section_at base page k)) (words-length k) (read_ok k e.0 e.1))

  told-lists : Yes (lists_ok w (told_by base page w).lists)
  unfolding lists_ok
  told-lists = every_of 4 _ (λ k l. told-list k (told-each k))

  none-late : Yes (later_sections_empty w (told_by base page w).lists)
  unfolding later_sections_empty
  none-late = every_of 4 _ (λ k l. go k (told-each k))
    where
      go : (k : ℕ) → Each base page w k → Yes (either (ltb k (section_count w)) (eqb (length ((told_by base page w).lists k)) 0))
      go k (inl e) = rw e (either_r _ _ refl)
      go k (inr e) = either_l _ _ (lt-ltb k (section_count w) e.0)

  -- ---- W5: the arrays and the fields fit after the core
  list-most : (k : ℕ) → k < section_count w → 8 * length ((told_by base page w).lists k) ≤ span_length w w base page k
  unfolding span_length size
  list-most k l = rw (lt-ltb k (section_count w) l) (go (told-each k))
    where
      go : Each base page w k → 8 * length ((told_by base page w).lists k) ≤ 8 * (words_per_entry k * count_at k page)
      go (inl e) = rw e (omega arith)
      go (inr e) = rw (e.2, words-length k) (omega arith)

  fields-span : span_length w w base page (section_count w) ≡ taken (found_at base page (word_at 8 page))
  unfolding span_length
  fields-span = rw (le-ltb (section_count w) (section_count w) (omega arith))

  pub told-fields : (told_by base page w).fields ≡ fields_kept (shown_fields (fields_in (found_at base page (word_at 8 page))))
  unfolding told_by shown_description plat_shown platform_at page_platform
  told-fields = refl

  pub told-room : length page ≡ 4096 → used w (told_by base page w) ≤ 4096
  unfolding used plat_bytes added_up core
  told-room n =
      let c = section-count-most w in
      let a = arrays-fit w w base page n t (omega arith) in
      let j = joined-late 4 (section_count w) (told_by base page w).lists c (λ k l. ap length (told-late k l)) in
      let b = joined-most (section_count w) (told_by base page w).lists (span_length w w base page) list-most in
      let f = (found-fits base page (word_at 8 page)).1 in
      rw told-fields (omega (arith, fields-span))

  -- ---- the writer accepts the fields: they keep the rules, take up every byte, and none is withdrawn
  pub told-scanned : scan_of (told_by base page w).fields ≡ bare (kept_of (fields_in (found_at base page (word_at 8 page))))
  told-scanned = rw told-fields (kept-told _ (found-fits base page (word_at 8 page)).0)

  pub told-tellable : Yes (describable (scan_of (told_by base page w).fields))
  unfolding describable is_bare fields_described both
  told-tellable = simp (told-scanned, kept-three)

  pub told-made : Yes (place_ok base (length page)) → 1 ≤ w →
      write_of base 4096 w (told_by base page w) ≡ a-page (page_of base w (told_by base page w))
  told-made p lo =
      let n = placed base (length page) p in
      w-made base 4096 w (told_by base page w) (rw n.0 at p) (edition-of w lo early) told-lists told-tellable none-late
      (le-leb _ _ (told-room n.0))

-- ---- for a page that a reader of edition 4 accepts
module _ (base : ℕ) (page : List ℕ) (w e : ℕ) (q : PlatShown) (s : ℕ → Shown) (h : read_of 4 base page ≡ shows w e q s) (early : w ≤ 4) where
  pub opened : Yes (place_ok base (length page)) × (1 ≤ w) × (rules_at w w base page ≡ true) × (shown_description q s ≡ told_by base page w)
      × (plat_shown (platform_at base page) ≡ q) × ((λ k. shown w w k (page_section_at base page k)) ≡ s)
  unfolding read_of judge all_shown rules_at told_by
  opened =
      let g = gate-shows _ _ _ _ _ _ _ _ h in
      let i = shows-each _ w _ e _ q _ s g.1 in
      let m : min 4 w ≡ w = omega arith in
      let v = version-minor (version_at page) (both_r _ _ g.0.1) in
      let n : version_at page ≡ w = sym v.0 ∙ i.0 in
      (g.0.0, rw n at v.1, rw (i.0, m) at g.0.2, rw (← i.2, ← i.3, i.0, m), i.2, rw (i.0, m) at i.3)

  -- the writer makes a page from what is shown: no refusal of W2 to W5
  pub pack_made : write_of base 4096 w (shown_description q s) ≡ a-page (page_of base w (shown_description q s))
  pack_made = rw opened.3 (told-made base page w early opened.2 opened.0 opened.1)

  -- so the only refusal left is the target's
  pub pack-page : pack_of base 4096 page ≡ written (a-page (page_of base w (shown_description q s)))
  unfolding pack_of packed_from
  pack-page = rw (h, le-leb w 4 early) (ap written pack_made)
