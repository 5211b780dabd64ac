-- No listing is longer than `listing_room`. Assumes nothing.
use Prim.Native.Nat.{ℕ, zero, suc, ◌+◌, ◌-◌, ◌*◌, ◌/◌, ◌≤◌, ◌<◌, min}
use mathlib.Core.Path.{◌≡◌, refl}
use mathlib.Core.Bool.{Bool, true, false, cond, false≢true}
use mathlib.Core.Logic.{⊎_elim}
use mathlib.Core.List.{List, []}
use native.Mathlib.Nat.{mul-suc, mul-le-mul_left}
use native.Mathlib.Omega.{arith}
use lib.Dec.{eqb, lit≤}
use lib.ListN.{length, take, drop, length-append, length-take}
use lib.Seq.{get_or-drop}
use borrow.Author.Tests.{lt-ltb, le-ltb, leb-true}
use Rattle.words.specs.Tests.{Yes, both}
use Rattle.words.specs.Word.{word_at, part, joined}
use Rattle.words.proofs.Tests.{both_l, both_r}
use Rattle.words.proofs.Bytes.{Bytes}
use Rattle.versions.specs.Version.{minor_of, version_ok}
use Rattle.versions.specs.Edition.{section_count, core, edition_ok}
use Rattle.entries.specs.Entry.{words_per_entry, size, shown_words}
use Rattle.sections.specs.Page.{place_ok, version_at, count_at, pointer_at, in_page, array_at, page_section, page_section_at, page_platform, found_at}
use Rattle.sections.specs.Page.{platform_at}
use Rattle.sections.specs.Section.{words_in, rules_at}
use Rattle.sections.proofs.Sections.{placed, rules-at}
use Rattle.sections.proofs.Spans.{added_up}
use Rattle.sections.proofs.Room.{array_lies, span_length, arrays-fit}
use Rattle.fields.specs.Fields.{fields_in, taken, shown_fields}
use Rattle.reader.specs.Answer.{Shown, empty, full, ReaderAnswer, refused, minus, shown_sec, shown, plat_shown, all_shown, reader_gate, judge}
use Rattle.reader.specs.Answer.{read_of, bytes_in, entry_word, entry_count}
use Rattle.text_lines.specs.Text.{lay_clipped, newline, space, dash, manifest_text, read_as_text, platform_text, none_text, absent_text}
use Rattle.text_lines.specs.Text.{refused_text, title_text, places_in, places, decimal, signed_decimal, hex_text, name_text, word_text, gap_text}
use Rattle.text_lines.specs.Text.{part_text, entry_text, count_text, state_text, section_text, head_text, pointer_text, plat_text, fields_text}
use Rattle.text_lines.specs.Text.{listing_of, printed, listing_room}
use Rattle.text_lines.proofs.Lay.{lay-whole}
use Rattle.text.proofs.Lengths.{decimal-most, hex-length, name-length}
use Rattle.text.proofs.FieldRoom.{found-text}

-- ---- an entry: a word takes at most 18 bytes, and one more for the space before it or the end of the line
word-most : (k j w : ℕ) → length (word_text k j w) ≤ 18
unfolding word_text
word-most k j w = go (both (eqb k 1) (eqb j 2))
  where
    go : (b : Bool) → length (cond b (name_text w) (hex_text w)) ≤ 18
    go true = omega (arith, name-length w)
    go false = omega (arith, hex-length w)

part-most : (k : ℕ) (s : Shown) (i j : ℕ) → length (part_text k s i (suc j)) ≤ 19
unfolding part_text gap_text space
part-most k s i j = let m = word-most k (suc j) (entry_word k i (suc j) s) in omega arith

parts-most : (k : ℕ) (s : Shown) (i n : ℕ) → length (joined (suc n) (part_text k s i)) ≤ 18 + 19 * n
unfolding joined part_text gap_text space
parts-most k s i zero = word-most k 0 (entry_word k i 0 s)
parts-most k s i (suc n) = rw length-append (omega (arith, parts-most k s i n, part-most k s i n))

entry-most : (k : ℕ) (s : Shown) (i : ℕ) → length (entry_text k s i) ≤ 19 * words_per_entry k
unfolding entry_text words_per_entry newline
entry-most zero s i = rw length-append (omega (arith, parts-most 0 s i 1))
entry-most (suc zero) s i = rw length-append (omega (arith, parts-most 1 s i 5))
entry-most (suc (suc k)) s i = rw length-append (omega (arith, parts-most (suc (suc k)) s i 1))

-- ---- a section
entries-most : (k : ℕ) (s : Shown) (n : ℕ) → length (joined n (entry_text k s)) ≤ 19 * words_per_entry k * n
unfolding joined
entries-most k s zero = omega arith
entries-most k s (suc n) = rw (length-append, mul-suc) (omega (arith, entries-most k s n, entry-most k s n))

count_most : (k : ℕ) (s : Shown) (c : ℕ) → entry_count k s ≤ c → c < 1000 → length (count_text k s) ≤ 4 + 19 * words_per_entry k * c
unfolding count_text newline
count_most k s c h l =
    let n = entry_count k s in
    let m : 19 * words_per_entry k * n ≤ 19 * words_per_entry k * c = mul-le-mul_left (19 * words_per_entry k) h in
    let d : length (decimal n) ≤ 3 = decimal-most 2 n (omega arith) in
    rw (length-append, length-append) (omega (arith, entries-most k s n))

-- the number of entries that fit in that many bytes
divided : (k n c : ℕ) → n ≤ size k c → n / (8 * words_per_entry k) ≤ c
unfolding size words_per_entry
divided zero n c h = omega arith
divided (suc zero) n c h = omega arith
divided (suc (suc k)) n c h = omega arith

array-most : (base : ℕ) (page : List ℕ) (p n : ℕ) → length (array_at base page p n) ≤ n
unfolding array_at part
array-most base page p n = go (in_page base p n)
  where
    go : (b : Bool) → length (cond b (take n (drop (p - base) page)) []) ≤ n
    go true = rw length-take (omega arith)
    go false = omega arith

module _ (w e base : ℕ) (page : List ℕ) (k : ℕ) where
  -- a section of the edition: its count and its entries
  state-in : k < section_count e → count_at k page < 1000 →
      length (state_text k (shown w e k (page_section_at base page k))) ≤ 4 + 19 * words_per_entry k * count_at k page
  unfolding shown shown_sec page_section_at page_section state_text entry_count bytes_in
  state-in l h = rw (lt-ltb k (section_count e) l) (go (eqb (count_at k page) 0))
    where
      bs : List ℕ
      bs = array_at base page (pointer_at k page) (size k (count_at k page))

      go : (b : Bool) → length (state_text k (cond b empty (full (shown_words w k (words_in k (page_section_at base page k))) bs))) ≤ 4 +
          19 * words_per_entry k * count_at k page
      go true = count_most k empty (count_at k page) (divided k 0 (count_at k page) (omega arith)) h
      go false =
          count_most k (full _ bs) (count_at k page) (divided k (length bs) (count_at k page) (array-most base page (pointer_at k page) _)) h

  -- a section that the edition lacks
  state-out : section_count e ≤ k → length (state_text k (shown w e k (page_section_at base page k))) ≤ 7
  unfolding shown state_text absent_text newline
  state-out l = rw (le-ltb k (section_count e) l) (lit≤ tt)

-- ---- an accepted page
few : (k c : ℕ) → size k c ≤ 4096 → c < 1000
unfolding size words_per_entry
few zero c h = omega arith
few (suc zero) c h = omega arith
few (suc (suc k)) c h = omega arith

shown-most : (w e base : ℕ) (page : List ℕ) → rules_at w e base page ≡ true → (k : ℕ) → k < section_count e →
    length (state_text k (shown w e k (page_section_at base page k))) ≤ 4 + 19 * words_per_entry k * count_at k page
shown-most w e base page h k l =
    state-in w e base page k l
    (⊎_elim (λ z. few k (count_at k page) (omega arith)) (λ p. few k (count_at k page) (omega arith))
    (array_lies w e base page k (rules-at w e base page h k l)))

-- the four sections of an edition
section-length : (s : ℕ → Shown) (k : ℕ) → length (section_text s k) ≡ length (title_text k) + 1 + length (state_text k (s k))
unfolding section_text space
section-length s k = rw (length-append, length-append)

four-lengths : (f : ℕ → List ℕ) → length (joined 4 f) ≡ length (f 0) + length (f 1) + length (f 2) + length (f 3)
unfolding joined
four-lengths f = rw (length-append, length-append, length-append)

module _ (w base : ℕ) (page : List ℕ) (b : Bytes page) (n : length page ≡ 4096) where
  abbrev state_length : ℕ → ℕ → ℕ
  state_length e k = length (state_text k (shown w e k (page_section_at base page k)))

  abbrev field_bytes : ℕ
  field_bytes = taken (found_at base page (word_at 8 page))

  abbrev fields_length : ℕ
  fields_length = length (fields_text (shown_fields (fields_in (found_at base page (word_at 8 page)))))

  states-most : (e : ℕ) → rules_at w e base page ≡ true → fields_length +
      (state_length e 0 + state_length e 1 + state_length e 2 + state_length e 3) ≤ 12259
  unfolding section_count core added_up span_length size words_per_entry
  states-most zero h =
      let out = state-out w 0 base page in
      let m : base + 16 + (0 + field_bytes) ≤ base + 4096 = arrays-fit w 0 base page n h (lit≤ tt) in
      omega (arith, found-text base (word_at 8 page) page b n, out 0 (lit≤ tt), out 1 (lit≤ tt), out 2 (lit≤ tt), out 3 (lit≤ tt))
  states-most (suc zero) h =
      let out = state-out w 1 base page in
      let m : base + 16 + (0 + field_bytes) ≤ base + 4096 = arrays-fit w 1 base page n h (lit≤ tt) in
      omega (arith, found-text base (word_at 8 page) page b n, out 0 (lit≤ tt), out 1 (lit≤ tt), out 2 (lit≤ tt), out 3 (lit≤ tt))
  states-most (suc (suc zero)) h =
      let out = state-out w 2 base page in
      let m : base + 40 + (0 + 8 * (2 * count_at 0 page) + field_bytes) ≤ base + 4096 = arrays-fit w 2 base page n h (lit≤ tt) in
      let a : state_length 2 0 ≤ 4 + 38 * count_at 0 page = shown-most w 2 base page h 0 (lit≤ tt) in
      omega (arith, found-text base (word_at 8 page) page b n, out 1 (lit≤ tt), out 2 (lit≤ tt), out 3 (lit≤ tt))
  states-most (suc (suc (suc zero))) h =
      let out = state-out w 3 base page in
      let m : base + 64 + (0 + 8 * (2 * count_at 0 page) + 8 * (6 * count_at 1 page) + field_bytes) ≤ base + 4096 =
      arrays-fit w 3 base page n h (lit≤ tt) in
      let a : state_length 3 0 ≤ 4 + 38 * count_at 0 page = shown-most w 3 base page h 0 (lit≤ tt) in
      let c : state_length 3 1 ≤ 4 + 114 * count_at 1 page = shown-most w 3 base page h 1 (lit≤ tt) in
      omega (arith, found-text base (word_at 8 page) page b n, out 2 (lit≤ tt), out 3 (lit≤ tt))
  states-most (suc (suc (suc (suc i)))) h =
      let e = suc (suc (suc (suc i))) in
      let m : base + 112 + (0 + 8 * (2 * count_at 0 page) + 8 * (6 * count_at 1 page) + 8 * (2 * count_at 2 page) + 8 *
      (2 * count_at 3 page) + field_bytes) ≤ base + 4096 = arrays-fit w e base page n h (lit≤ tt) in
      let a : state_length e 0 ≤ 4 + 38 * count_at 0 page = shown-most w e base page h 0 (lit≤ tt) in
      let c : state_length e 1 ≤ 4 + 114 * count_at 1 page = shown-most w e base page h 1 (lit≤ tt) in
      let d : state_length e 2 ≤ 4 + 38 * count_at 2 page = shown-most w e base page h 2 (lit≤ tt) in
      let f : state_length e 3 ≤ 4 + 38 * count_at 3 page = shown-most w e base page h 3 (lit≤ tt) in
      omega (arith, found-text base (word_at 8 page) page b n)

  sections-most : (e : ℕ) → rules_at w e base page ≡ true →
      fields_length + length (joined 4 (section_text (λ k. shown w e k (page_section_at base page k)))) ≤ 12281
  unfolding title_text
  sections-most e h =
      let s : ℕ → Shown = λ k. shown w e k (page_section_at base page k) in
      rw (four-lengths (section_text s), section-length s 0, section-length s 1, section-length s 2, section-length s 3)
      (omega (arith, states-most e h))

-- ---- the two lines before them
head-most : (w e : ℕ) → w < 65536 → e < 10 → length (head_text w e) ≤ 27
unfolding head_text manifest_text read_as_text newline
head-most w e h g =
    let m : length (decimal w) ≤ 5 = decimal-most 4 w (omega arith) in
    let n : length (decimal e) ≤ 1 = decimal-most 0 e g in
    rw (length-append, length-append, length-append, length-append) (omega arith)

plat-most : (p : ℕ) → length (plat_text p) ≤ 28
unfolding plat_text platform_text pointer_text none_text newline
plat-most p = rw (length-append, length-append) (go (eqb p 0))
  where
    go : (b : Bool) → 9 + length (cond b none_text (hex_text p)) + 1 ≤ 28
    go true = lit≤ tt
    go false = omega (arith, hex-length p)

-- ---- a listing
gate-most : (p v o : Bool) (a : ReaderAnswer) → (Yes p → Yes v → Yes o → length (listing_of a) ≤ listing_room) →
    length (listing_of (reader_gate p v o a)) ≤ listing_room
unfolding reader_gate listing_of refused_text signed_decimal dash decimal places places_in newline
gate-most true true true a h = h refl refl refl
gate-most true true false a h = lit≤ tt
gate-most true false o a h = lit≤ tt
gate-most false v o a h = lit≤ tt

pub listing-fits : (r base : ℕ) (page : List ℕ) → Bytes page → length (listing_of (read_of r base page)) ≤ listing_room
unfolding read_of judge rules_at all_shown plat_shown platform_at page_platform listing_of edition_ok minor_of
listing-fits r base page b = gate-most _ _ _ _ accepted
  where
    w : ℕ
    w = minor_of (version_at page)

    accepted : Yes (place_ok base (length page)) → Yes (both (edition_ok r) (version_ok (version_at page))) →
        Yes (rules_at w (min r w) base page) →
        length (listing_of (all_shown w (min r w) (platform_at base page) (page_section_at base page))) ≤ listing_room
    accepted p v o =
        let m : r ≤ 4 = leb-true _ _ (both_r _ _ (both_l _ _ v)) in
        rw (length-append, length-append, length-append)
        (omega (
          arith,
          head-most w (min r w) (omega arith) (omega arith),
          plat-most (word_at 8 page),
          sections-most w base page b (placed base (length page) p).0 (min r w) o,
        ))

-- no listing is cut in a slice of that length
pub listing-whole : (r base : ℕ) (page out : List ℕ) → Bytes page → listing_room ≤ length out →
    take (length (listing_of (read_of r base page))) (lay_clipped 0 (listing_of (read_of r base page)) out) ≡ listing_of (read_of r base page)
listing-whole r base page out b h = lay-whole (listing_of (read_of r base page)) out (omega (arith, listing-fits r base page b))

-- the line of a code
pub refused-fits : length (listing_of (refused (minus 5))) ≤ listing_room
unfolding reader_gate
refused-fits = gate-most false false false (refused (minus 5)) (λ p v o. absurd (false≢true p))

pub printed-fits : (input : List ℕ) → Bytes input → length (printed input) ≤ listing_room
unfolding printed
printed-fits input b = go (eqb (length input) 4104)
  where
    go : (b : Bool) → length (listing_of (cond b (read_of 4 (word_at 0 input) (drop 8 input)) (refused (minus 5)))) ≤ listing_room
    go true = listing-fits 4 (word_at 0 input) (drop 8 input) (λ i. rw get_or-drop (b (8 + i)))
    go false = refused-fits
