-- Example 14's page: the reader accepts it and shows its bank. A definition that refuses everything, or shows every page alike, fails
-- here. Assumes nothing.
use Prim.Native.Nat.{ℕ}
use mathlib.Core.Bool.{true, false}
use mathlib.Core.Path.{◌≡◌, refl}
use mathlib.Core.List.{List, [], ◌++◌}
use lib.ListN.{take, replicate}
use Rattle.words.specs.Tests.{both, either, every, some}
use Rattle.words.specs.Word.{le_of, le_bytes, part, num_at, words_of, splice}
use Rattle.versions.specs.Version.{minor_of, major_of, above_of, version_ok}
use Rattle.versions.specs.Edition.{section_count, core, edition_ok}
use Rattle.entries.specs.Entry.{words_per_entry, size, bank_ok, entry_rule, entry_ok, entries_ok, shown_words, sum, check_ok}
use Rattle.entries.specs.Array.{sound_of}
use Rattle.fields.specs.Fields.{taken}
use Rattle.sections.specs.Page.{place_ok, in_page, array_at, page_section, page_section_at, page_platform, found_at, platform_at}
use Rattle.sections.specs.Section.{platform_ok, words_in, nothing, in_range, section_ok, extent, apart, clear_before, plat_extent, plat_clear}
use Rattle.sections.specs.Section.{rules}
use Rattle.reader.specs.Answer.{shown, shown_sec, plat_shown, all_shown, reader_gate, judge, read_of, bytes_in, look_in, entry_word, word_in}
use Rattle.reader.specs.Answer.{entry_count, count_in, in_array, in_plat, named_by, named}

unfoldable pub bank : List ℕ
bank = le_bytes 8 0x90000000 ++ le_bytes 8 0x10000000

unfoldable pub page : List ℕ
page =
    le_bytes 4 2 ++ le_bytes 4 0 ++ le_bytes 8 0
    ++ le_bytes 8 1 ++ le_bytes 8 0x80000028 ++ le_bytes 8 0xFFFFFFFEDFFFFFD7
    ++ bank ++ replicate 4040 0

pub sample : (count_in (read_of 4 0x80000000 page) 0 ≡ 1)
    × (word_in (read_of 4 0x80000000 page) 0 0 0 ≡ 0x90000000)
    × (word_in (read_of 4 0x80000000 page) 0 0 1 ≡ 0x10000000)
    × (look_in (read_of 4 0x80000000 page) 0 ≡ bank)
    × (look_in (read_of 4 0x80000000 page) 1 ≡ [])
unfolding bank page count_in entry_count word_in entry_word look_in bytes_in read_of judge reader_gate all_shown plat_shown shown shown_sec rules
    plat_clear plat_extent taken found_at clear_before apart extent section_ok in_range nothing words_in platform_ok platform_at page_platform
    page_section_at page_section array_at in_page place_ok sound_of check_ok sum shown_words entries_ok entry_ok entry_rule bank_ok size words_per_entry
    edition_ok core section_count version_ok above_of major_of minor_of words_of num_at part le_bytes le_of every either both
sample = (refl, refl, refl, refl, refl)

-- the bytes named: the core and the bank up to byte 55; for edition 1, or if the version is refused, the first 16; for a page that is one
-- byte short, none
pub sample-named : (named 4 0x80000000 page 55 ≡ true)
    × (named 4 0x80000000 page 56 ≡ false)
    × (named 1 0x80000000 page 15 ≡ true)
    × (named 1 0x80000000 page 16 ≡ false)
    × (named 4 0x80000000 (splice 0 (le_bytes 4 0) page) 15 ≡ true)
    × (named 4 0x80000000 (splice 0 (le_bytes 4 0) page) 16 ≡ false)
    × (named 4 0x80000000 (take 4095 page) 0 ≡ false)
unfolding bank page named named_by in_array in_plat splice some in_page size words_per_entry core section_count version_ok above_of major_of minor_of
    num_at part le_bytes le_of either both
sample-named = (refl, refl, refl, refl, refl, refl, refl)
