-- Request E12: three sections of a 0.4 page name one array. The first has a wrong checksum and is dropped, so it overlaps nothing and the
-- second is kept; the third overlaps the second and is dropped. Assumes nothing.
use Rattle.std.proofs.Common.{Ok}
use Prim.Native.Nat.{ℕ}
use mathlib.Core.Bool.{true, false}
use mathlib.Core.Path.{◌≡◌, refl}
use mathlib.Core.List.{List, ◌++◌}
use lib.ListN.{replicate}
use Rattle.words.specs.Tests.{both, either, every}
use Rattle.words.specs.Word.{le_of, le_bytes, part, num_at, words_of}
use Rattle.versions.specs.Version.{minor_of, major_of, above_of, version_ok}
use Rattle.versions.specs.Edition.{section_count, core}
use Rattle.entries.specs.Entry.{words_per_entry, size, bank_ok, entry_rule, entry_ok, entries_ok, sum, check_ok}
use Rattle.entries.specs.Array.{sound_of}
use Rattle.fields.specs.Fields.{taken}
use Rattle.sections.specs.Page.{place_ok, in_page, array_at, page_section, page_section_at, page_platform, found_at, platform_at}
use Rattle.sections.specs.Section.{platform_ok, words_in, nothing, in_range, section_ok, extent, apart, clear_before, plat_extent, plat_clear}
use Rattle.mend.specs.Mend.{no_section, plat_left, stays, after_mending, keeps_section, plat_left_at, keeps_at, changed, mend_changes}
use Rattle.mend.specs.Mend.{mend_gate, mended_of}

-- a section of one entry after the core, by its checksum
unfoldable pub one_there : ℕ → List ℕ
one_there check = le_bytes 8 1 ++ le_bytes 8 0x80000070 ++ le_bytes 8 check

-- for B = 0x80000000; the entry is 0x10000000 bytes at 0x90000000
unfoldable pub three_on_one : List ℕ
three_on_one =
    le_bytes 4 4 ++ replicate 12 0
    ++ one_there 0 ++ replicate 24 0 ++ one_there 0xFFFFFFFEDFFFFF8F ++ one_there 0xFFFFFFFEDFFFFF8F
    ++ le_bytes 8 0x90000000 ++ le_bytes 8 0x10000000 ++ replicate 3968 0

pub second-kept : mended_of 0x80000000 three_on_one ≡ Ok (record
    { padding = false; plat = false; dram = true; console = false; ncoh = false; coh = true })
unfolding one_there three_on_one mended_of mend_gate mend_changes changed keeps_at keeps_section stays after_mending plat_left_at plat_left no_section
    plat_clear plat_extent taken found_at clear_before apart extent section_ok in_range nothing words_in platform_ok platform_at page_platform
    page_section_at page_section array_at in_page place_ok sound_of check_ok sum entries_ok entry_ok entry_rule bank_ok size words_per_entry core
    section_count version_ok above_of major_of minor_of words_of num_at part le_bytes le_of every either both
second-kept = refl
