-- Example 14's page, made from its bank, a page with fields, and one with each section. A writer that refuses everything fails here, and one that
-- puts a part elsewhere. Assumes nothing.
use mathlib.Core.Path.{◌≡◌, refl}
use mathlib.Core.List.{List, [], ◌∷◌, ◌++◌}
use Prim.Native.Nat.{ℕ}
use lib.ListN.{replicate}
use Rattle.words.specs.Tests.{both, either, every}
use Rattle.words.specs.Word.{le_of, le_bytes, part, num_at, bytes_of, joined}
use Rattle.versions.specs.Edition.{section_count, core, edition_ok}
use Rattle.entries.specs.Entry.{words_per_entry, bank_ok, flags_ok, console_ok, entry_rule, entry_ok, entries_ok, sum}
use Rattle.sections.specs.Page.{place_ok}
use Rattle.reader.proofs.Sample.{bank, page}
use Rattle.fields.specs.Fields.{mk_field, push, step, scan, scan_all, scan_of, judged, fields_ok, lengths_ok, length_ok, count, is_bare}
use Rattle.fields.specs.Fields.{fields_described, describable, end_mark}
use Rattle.writer_checks.specs.Description.{four_lists, description_of, list_ok, lists_ok, description_ok, later_sections_empty, with_mark}
use Rattle.writer_checks.specs.Description.{plat_bytes, used}
use Rattle.writer_rules.specs.Write.{neg, descriptor, array_address, descriptor_at, point_to, plat_word, core_words, filled, page_of, Made}
use Rattle.writer_rules.specs.Write.{no-page, a-page, writer_gate, write_of}

pub sample : write_of 0x80000000 4096 2 (description_of (0x90000000 ∷ 0x10000000 ∷ []) [] [] [] []) ≡ a-page page
unfolding bank page write_of writer_gate page_of filled core_words descriptor_at array_address descriptor neg plat_word point_to used plat_bytes
    with_mark later_sections_empty description_ok describable is_bare fields_described scan_of judged scan_all scan fields_ok lengths_ok count lists_ok
    list_ok description_of four_lists place_ok sum entries_ok entry_ok entry_rule bank_ok words_per_entry edition_ok core section_count joined bytes_of
    le_bytes every either both
sample = refl

-- a board name and an empty field of tag 9, after a core of 16 bytes
abbrev told : List ℕ
told = 1 ∷ 1 ∷ 0 ∷ 0x41 ∷ 9 ∷ 0 ∷ 0 ∷ []

abbrev making : List ℕ → Made
making fs = write_of 0x80000000 4096 1 (description_of [] [] [] [] fs)

pub sample-fields : making told ≡ a-page (le_bytes 4 1 ++ le_bytes 4 0 ++ le_bytes 8 0x80000010 ++ told ++ replicate 4073 0)
unfolding write_of writer_gate page_of filled core_words descriptor_at array_address descriptor neg plat_word point_to used plat_bytes with_mark
    later_sections_empty description_ok describable is_bare fields_described scan_of judged scan_all scan step push mk_field num_at part le_of
    fields_ok lengths_ok length_ok count end_mark lists_ok list_ok description_of four_lists place_ok sum entries_ok entry_ok entry_rule bank_ok
    words_per_entry edition_ok core section_count joined bytes_of le_bytes every either both
sample-fields = refl

-- an entry in each section, and the fields: "the core, .. then the arrays at once after it in section order, and zero everywhere else"
abbrev region : List ℕ
region = 0xA0000000 ∷ 0x1000 ∷ []

abbrev console : List ℕ
console = 0x9000000 ∷ 1 ∷ 0x31313070 ∷ 0x1000000 ∷ 115200 ∷ 0 ∷ []

abbrev words : List ℕ
words =
    4 ∷ 0x800000D0
    ∷ 1 ∷ 0x80000070 ∷ 0xFFFFFFFEDFFFFF8F ∷ 1 ∷ 0x80000080 ∷ 0xFFFFFFFF44CD0D0E
    ∷ 1 ∷ 0x800000B0 ∷ 0xFFFFFFFEDFFFEF4F ∷ 1 ∷ 0x800000C0 ∷ 0xFFFFFFFECFFFDF3F
    ∷ 0x90000000 ∷ 0x10000000
    ∷ 0x9000000 ∷ 1 ∷ 0x31313070 ∷ 0x1000000 ∷ 115200 ∷ 0
    ∷ 0xA0000000 ∷ 0x1000 ∷ 0xB0000000 ∷ 0x2000 ∷ []

pub sample-sections : write_of 0x80000000 4096 4 (description_of (0x90000000 ∷ 0x10000000 ∷ []) console region
    (0xB0000000 ∷ 0x2000 ∷ []) told)
    ≡ a-page (bytes_of words ++ told ++ replicate 3881 0)
unfolding write_of writer_gate page_of filled core_words descriptor_at array_address descriptor neg plat_word point_to used plat_bytes with_mark
    later_sections_empty description_ok describable is_bare fields_described scan_of judged scan_all scan step push mk_field num_at part le_of
    fields_ok lengths_ok length_ok count end_mark lists_ok list_ok description_of four_lists place_ok sum entries_ok entry_ok entry_rule bank_ok
    console_ok flags_ok words_per_entry edition_ok core section_count joined bytes_of le_bytes every either both
sample-sections = refl

-- W3: a field that is cut short, a tag 0, a name twice; W5: one byte more than the page holds with the end mark
pub sample-refused : (making (1 ∷ 2 ∷ 0 ∷ 0x41 ∷ []) ≡ no-page 3)
    × (making (0 ∷ 0 ∷ 0 ∷ []) ≡ no-page 3)
    × (making (1 ∷ 1 ∷ 0 ∷ 0x41 ∷ told) ≡ no-page 3)
    × (used 1 (description_of [] [] [] [] (9 ∷ le_bytes 2 4074 ++ replicate 4074 0)) ≡ 4096)
    × (making (9 ∷ le_bytes 2 4075 ++ replicate 4075 0) ≡ no-page 5)
unfolding write_of writer_gate page_of filled core_words descriptor_at array_address descriptor neg plat_word point_to used plat_bytes with_mark
    later_sections_empty description_ok describable is_bare fields_described scan_of judged scan_all scan step push mk_field num_at part le_of
    fields_ok lengths_ok length_ok count end_mark lists_ok list_ok description_of four_lists place_ok sum entries_ok entry_ok entry_rule bank_ok
    words_per_entry edition_ok core section_count joined bytes_of le_bytes every either both
sample-refused = (refl, refl, refl, refl, refl)
