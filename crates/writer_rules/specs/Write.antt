-- The writer. "The writer takes B, an edition, four lists of 64-bit words (2 words an entry, 6 for a console) and a page. It
-- writes the core, plat_data 0, then the arrays at once after it in section order, and zero everywhere else. An empty list gives
-- 24 zero bytes." (WR1, WR6, WR7) Request E7: "The writer takes a list of fields, places them in list order at once after core and arrays
-- and points at them, or writes pointer 0 if there are none." (WR6, WR8) Assumes nothing.
use Rattle.std.specs.Prelude.{ℕ, ◌+◌, ◌-◌, ◌*◌, ◌/◌, ◌%◌, ◌^◌, Bool, true, false, cond, List, [], ◌∷◌, ◌++◌, length, replicate, leb, ltb}
use Rattle.words.specs.Tests.{every}
use Rattle.words.specs.Word.{bytes_of, are_words, joined}
use Rattle.versions.specs.Edition.{section_count, core, edition_ok}
use Rattle.entries.specs.Entry.{words_per_entry, sum}
use Rattle.sections.specs.Page.{place_ok}
use Rattle.reader.specs.Answer.{Shown, absent, empty, full, PlatShown}
use Rattle.fields.specs.Fields.{scan_of, fields_described, shown_fields}
use Rattle.writer_checks.specs.Description.{Description, description_ok, later_sections_empty, plat_bytes, used}

-- the word that makes a sum 0 modulo 2^64 (ML6)
unfoldable pub neg : ℕ → ℕ
neg x = (2 ^ 64 - x % 2 ^ 64) % 2 ^ 64

-- WR7: count, pointer and checksum of section `k` with the list `ws` at address `p`
unfoldable pub descriptor : ℕ → ℕ → List ℕ → List ℕ
descriptor k p [] = 0 ∷ 0 ∷ 0 ∷ []
descriptor k p (w ∷ ws) =
    let c = length (w ∷ ws) / words_per_entry k in
    c ∷ p ∷ neg (c + p + sum (w ∷ ws)) ∷ []

-- the address of the array of section `k`: after the core and the first `k` arrays (WR7)
unfoldable pub array_address : ℕ → ℕ → (ℕ → List ℕ) → ℕ → ℕ
array_address base v l k = base + (core v + 8 * length (joined k l))

-- count, pointer and checksum of section `k`, with its list at that address
unfoldable pub descriptor_at : ℕ → ℕ → (ℕ → List ℕ) → ℕ → List ℕ
descriptor_at base v l k = descriptor k (array_address base v l k) (l k)

-- WR8: the platform pointer: it "points at them, or writes pointer 0 if there are none"
unfoldable pub point_to : ℕ → List ℕ → ℕ
point_to a [] = 0
point_to a (b ∷ bs) = a

-- the fields start where a fifth array would (WR6, WR8)
unfoldable pub plat_word : ℕ → ℕ → Description → ℕ
plat_word base v d = point_to (array_address base v d.lists 4) d.fields

-- the words of the core; the first word holds version and padding
unfoldable pub core_words : ℕ → ℕ → Description → List ℕ
core_words base v d = v ∷ plat_word base v d ∷ joined (section_count v) (descriptor_at base v d.lists)

-- the bytes, then zero up to the end of the page (WR6)
unfoldable pub filled : List ℕ → List ℕ
filled bs = bs ++ replicate (4096 - length bs) 0

-- WR6: the whole page: core, arrays, fields, zero
unfoldable pub page_of : ℕ → ℕ → Description → List ℕ
page_of base v d = filled (bytes_of (core_words base v d ++ joined 4 d.lists) ++ plat_bytes d)

-- what the writer makes: a page, or the number of the refusal
pub data Made : Type 0 where
  no-page : ℕ → Made
  a-page : List ℕ → Made

-- WR3: "Writer refusals, in order": W1 as -5, W2 edition, W3 lists and fields, W4 late section, W5 room
unfoldable pub writer_gate : Bool → Bool → Bool → Bool → Bool → List ℕ → Made
writer_gate true true true true true p = a-page p
writer_gate true true true true false p = no-page 5
writer_gate true true true false e p = no-page 4
writer_gate true true false d e p = no-page 3
writer_gate true false c d e p = no-page 2
writer_gate false b c d e p = no-page 1

-- what the writer of edition `v` makes at base B on a lent page of `n` bytes
unfoldable pub write_of : ℕ → ℕ → ℕ → Description → Made
write_of base n v d = writer_gate (place_ok base n) (edition_ok v) (description_ok v d) (later_sections_empty v d.lists) (leb (used v d) 4096) (page_of base v d)

-- ---- what a reader shows of a page that the writer made
-- each word of the lists is below 2^64: true of any lent list of 64-bit words, and promised by `write`
unfoldable pub description_fits : Description → Bool
description_fits d = every 4 (λ k. are_words (d.lists k))

-- "as they were described" (CP5): a list is shown as its words, in order, with their bytes; an empty list as an empty section
unfoldable pub shown_list : List ℕ → Shown
shown_list [] = empty
shown_list (w ∷ ws) = full (w ∷ ws) (bytes_of (w ∷ ws))

-- sections of edition `e` show their list; any other number is absent
unfoldable pub described : ℕ → Description → ℕ → Shown
described e d k = cond (ltb k (section_count e)) (shown_list (d.lists k)) absent

-- the platform data: the written pointer, and the fields in list order
unfoldable pub plat_described : ℕ → ℕ → Description → PlatShown
plat_described base v d = record { pointer = plat_word base v d; fields = shown_fields (fields_described (scan_of d.fields)) }
