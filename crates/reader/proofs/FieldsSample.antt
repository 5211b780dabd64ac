-- Request E7: sample pages of edition 1 with a board name, a serial and a raw field, and what is shown and named of them; also pages whose
-- fields are refused. Assumes nothing.
use Prim.Native.Nat.{ℕ, ◌+◌}
use mathlib.Core.Bool.{true, false}
use mathlib.Core.Path.{◌≡◌, refl}
use mathlib.Core.List.{List, [], ◌∷◌, ◌++◌, map}
use lib.ListN.{replicate}
use Rattle.words.specs.Tests.{both, either, every, some}
use Rattle.words.specs.Word.{le_of, le_bytes, part, num_at}
use Rattle.versions.specs.Version.{minor_of, major_of, above_of, version_ok}
use Rattle.versions.specs.Edition.{section_count, core, edition_ok}
use Rattle.fields.specs.Fields.{mk_field, push, step, scan, scan_all, scan_of, judged, fields_ok, lengths_ok, length_ok, count, fields_in, is_ended}
use Rattle.fields.specs.Fields.{reach, raw, shown_field, shown_fields}
use Rattle.sections.specs.Page.{place_ok, in_page, array_at, page_section, page_section_at, page_platform, found_at, platform_at}
use Rattle.sections.specs.Section.{platform_ok, clear_before, plat_clear, rules}
use Rattle.reader.specs.Answer.{refused, minus, shown, plat_shown, all_shown, reader_gate, judge, read_of, fields_shown, in_array, in_plat}
use Rattle.reader.specs.Answer.{named_by, named}

-- the name `pb1`, serial 0x0102030405060708, and a field of tag 9 with no bytes; then the end mark
unfoldable pub facts : List ℕ
facts = 1 ∷ 3 ∷ 0 ∷ 112 ∷ 98 ∷ 49 ∷ 2 ∷ 8 ∷ 0 ∷ 8 ∷ 7 ∷ 6 ∷ 5 ∷ 4 ∷ 3 ∷ 2 ∷ 1 ∷ 9 ∷ 0 ∷ 0 ∷ 0 ∷ 0 ∷ 0 ∷ []

-- a 0.1 page for B = 0x80000000: the platform pointer is B + offset, `bytes` follows the core, and `rest` bytes of 5 follow those
unfoldable pub page_with : ℕ → List ℕ → ℕ → List ℕ
page_with offset bytes rest = le_bytes 8 1 ++ le_bytes 8 (0x80000000 + offset) ++ bytes ++ replicate rest 5

pub fields-shown :
    -- any edition shows the fields in page order, and nothing after the end mark
    (fields_shown (read_of 1 0x80000000 (page_with 16 facts 4057)) ≡ raw 1 (112 ∷ 98 ∷ 49 ∷ []) ∷ raw 2
    (8 ∷ 7 ∷ 6 ∷ 5 ∷ 4 ∷ 3 ∷ 2 ∷ 1 ∷ []) ∷ raw 9 [] ∷ [])
    × (fields_shown (read_of 4 0x80000000 (page_with 16 facts 4057)) ≡ raw 1 (112 ∷ 98 ∷ 49 ∷ []) ∷ raw 2
    (8 ∷ 7 ∷ 6 ∷ 5 ∷ 4 ∷ 3 ∷ 2 ∷ 1 ∷ []) ∷ raw 9 [] ∷ [])
    -- a pointer to the serial shows the fields from there on
    × (fields_shown (read_of 4 0x80000000 (page_with 22 facts 4057)) ≡ raw 2 (8 ∷ 7 ∷ 6 ∷ 5 ∷ 4 ∷ 3 ∷ 2 ∷ 1 ∷ []) ∷ raw 9 [] ∷ [])
    -- refused: a pointer into the core, into a value, and past the page
    × (read_of 4 0x80000000 (page_with 15 facts 4057) ≡ refused (minus 7))
    × (read_of 4 0x80000000 (page_with 17 facts 4057) ≡ refused (minus 7))
    × (read_of 4 0x80000000 (page_with 4096 facts 4057) ≡ refused (minus 7))
unfolding facts page_with fields_shown read_of judge reader_gate all_shown plat_shown shown shown_fields shown_field fields_in rules plat_clear
    clear_before platform_ok is_ended platform_at page_platform found_at page_section_at page_section array_at in_page place_ok scan_of scan_all scan step
    push mk_field judged fields_ok lengths_ok length_ok count edition_ok core section_count version_ok above_of major_of minor_of num_at part le_bytes
    le_of every either both
fields-shown = (refl, refl, refl, refl, refl, refl)

-- named are the core and the fields through their end mark; if the fields are broken, all bytes from the pointer on
pub fields-named : (map (named 4 0x80000000 (page_with 16 facts 4057))
    (15 ∷ 16 ∷ 38 ∷ 39 ∷ 4095 ∷ []) ≡ true ∷ true ∷ true ∷ false ∷ false ∷ [])
    × (map (named 4 0x80000000 (page_with 17 facts 4057)) (15 ∷ 16 ∷ 17 ∷ 39 ∷ 4095 ∷ []) ≡ true ∷ false ∷ true ∷ true ∷ true ∷ [])
unfolding facts page_with named named_by in_array in_plat reach found_at in_page scan_of scan_all scan step push mk_field judged fields_ok lengths_ok
    length_ok count core section_count version_ok above_of major_of minor_of num_at part le_bytes le_of some either both
fields-named = (refl, refl)
