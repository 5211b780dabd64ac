-- Request E3: a sample page with one console whose flags are set, read at the limit. At minor 4 it is refused; at minor 5 it is accepted,
-- the console is shown with flags 0 and its other words unchanged, and the lookup gives the page's bytes. Holds for editions 3 and 4, which
-- have consoles. Assumes nothing.
use Prim.Native.Nat.{ℕ}
use mathlib.Core.Path.{◌≡◌, refl}
use mathlib.Core.List.{List, [], ◌∷◌, ◌++◌, map}
use lib.ListN.{replicate}
use Rattle.words.specs.Tests.{both, either, every}
use Rattle.words.specs.Word.{le_of, le_bytes, part, num_at, words_of}
use Rattle.versions.specs.Version.{minor_of, major_of, above_of, version_ok}
use Rattle.versions.specs.Edition.{section_count, core, edition_ok}
use Rattle.entries.specs.Entry.{words_per_entry, size, flags_ok, console_ok, entry_rule, entry_ok, entries_ok, flags_cleared, shown_words, sum}
use Rattle.entries.specs.Entry.{check_ok}
use Rattle.entries.specs.Array.{sound_of}
use Rattle.fields.specs.Fields.{taken}
use Rattle.sections.specs.Page.{place_ok, in_page, array_at, page_section, page_section_at, page_platform, found_at, platform_at}
use Rattle.sections.specs.Section.{platform_ok, words_in, nothing, in_range, section_ok, extent, apart, clear_before, plat_extent, plat_clear}
use Rattle.sections.specs.Section.{rules}
use Rattle.reader.specs.Answer.{ReaderAnswer, refused, minus, shown, shown_sec, plat_shown, all_shown, reader_gate, judge, read_of}
use Rattle.reader.specs.Answer.{bytes_in, look_in, entry_word, word_in}

-- base 0x90000000, one page, name pl011, 24 MHz, 115,200 baud, flags 1
unfoldable pub flagged : List ℕ
flagged = le_bytes 8 0x90000000 ++ le_bytes 8 1 ++ le_bytes 8 0x3131306C70 ++ le_bytes 8 24000000 ++ le_bytes 8 115200 ++ le_bytes 8 1

-- a page of this minor for B = 0x80000000: no bank, and this console after the core of edition 4
unfoldable pub flagged_page : ℕ → List ℕ
flagged_page minor =
    le_bytes 4 minor ++ replicate 36 0
    ++ le_bytes 8 1 ++ le_bytes 8 0x80000070 ++ le_bytes 8 0xFFFFFFCDBD5F9B1D
    ++ replicate 48 0
    ++ flagged ++ replicate 3936 0

-- the six words of the first console, as an answer shows them
unfoldable pub first_console : ReaderAnswer → List ℕ
first_console a = map (word_in a 1 0) (0 ∷ 1 ∷ 2 ∷ 3 ∷ 4 ∷ 5 ∷ [])

pub flags-at-limit : (read_of 3 0x80000000 (flagged_page 4) ≡ refused (minus 7))
    × (read_of 4 0x80000000 (flagged_page 4) ≡ refused (minus 7))
    × (first_console (read_of 3 0x80000000 (flagged_page 5)) ≡ 0x90000000 ∷ 1 ∷ 0x3131306C70 ∷ 24000000 ∷ 115200 ∷ 0 ∷ [])
    × (first_console (read_of 4 0x80000000 (flagged_page 5)) ≡ 0x90000000 ∷ 1 ∷ 0x3131306C70 ∷ 24000000 ∷ 115200 ∷ 0 ∷ [])
    × (look_in (read_of 3 0x80000000 (flagged_page 5)) 1 ≡ flagged)
    × (look_in (read_of 4 0x80000000 (flagged_page 5)) 1 ≡ flagged)
unfolding flagged flagged_page first_console word_in entry_word look_in bytes_in read_of judge reader_gate all_shown plat_shown shown shown_sec rules
    plat_clear plat_extent taken found_at clear_before apart extent section_ok in_range nothing words_in platform_ok platform_at page_platform
    page_section_at page_section array_at in_page place_ok sound_of check_ok sum shown_words flags_cleared entries_ok entry_ok entry_rule console_ok
    flags_ok size words_per_entry edition_ok core section_count version_ok above_of major_of minor_of words_of num_at part le_bytes le_of every either
    both
flags-at-limit = (refl, refl, refl, refl, refl, refl)
