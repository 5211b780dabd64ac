-- Example 4's bank with the plain sum as its checksum: the fault reports the checksum of the example. If the size is also not a multiple of
-- 4,096, the fault is the size, because entries come before the checksum. Assumes nothing.
use Rattle.std.proofs.Common.{◌≡◌, ℕ, List, ◌++◌, replicate, refl, Err}
use Rattle.words.specs.Tests.{both, either, every}
use Rattle.words.specs.Word.{le_of, le_bytes, part, num_at, words_of}
use Rattle.versions.specs.Version.{minor_of, major_of, above_of, version_ok}
use Rattle.versions.specs.Edition.{section_count, core, edition_ok}
use Rattle.entries.specs.Entry.{words_per_entry, size, sum, check_ok}
use Rattle.entries.specs.Array.{words_at, entry_place}
use Rattle.fields.specs.Fields.{length_ok}
use Rattle.fields.specs.Steps.{none_seen, seen_with, is_seen}
use Rattle.sections.specs.Page.{place_ok}
use Rattle.sections.specs.Section.{nothing, in_range}
use Rattle.faults.specs.Faults.{mk_fault, unless, first_fault, first_of, bank_fault, entry_fault, entry_of, wanted_sum, check_fault}
use Rattle.faults.specs.Faults.{array_fault, section_tests, section_fault, field_fault, field_tests, walk_fault, fields_fault, plat_fault}
use Rattle.faults.specs.Faults.{rules_fault, fault_of}
use Rattle.faults.specs.declared.Rule.TheVariants as rule

-- a page with one bank at 0x90000000, given its size and checksum
unfoldable pub one_bank : ℕ → ℕ → List ℕ
one_bank s check =
    le_bytes 4 2 ++ le_bytes 4 0 ++ le_bytes 8 0
    ++ le_bytes 8 1 ++ le_bytes 8 0x80000028 ++ le_bytes 8 check
    ++ le_bytes 8 0x90000000 ++ le_bytes 8 s ++ replicate 4040 0

pub sample : (fault_of 4 0x80000000 (one_bank 0x10000000 0x120000029) ≡ Err (mk_fault rule.Checksum 0 0 32 0x120000029 0xFFFFFFFEDFFFFFD7))
    × (fault_of 4 0x80000000 (one_bank 0x10000800 0x120000029) ≡ Err (mk_fault rule.EntrySize 0 0 48 0x10000800 0))
unfolding one_bank fault_of rules_fault plat_fault section_fault section_tests array_fault check_fault wanted_sum entry_of entry_fault bank_fault
    first_of first_fault unless mk_fault nothing in_range place_ok words_at entry_place check_ok sum size words_per_entry edition_ok core section_count
    version_ok above_of major_of minor_of words_of num_at part le_bytes le_of every either both
sample = (refl, refl)

-- a page of edition 1 with two board names: the second, field 1, follows the first at offset 20
unfoldable pub two_names : List ℕ
two_names =
    le_bytes 4 1 ++ le_bytes 4 0 ++ le_bytes 8 0x80000010
    ++ le_bytes 1 1 ++ le_bytes 2 1 ++ le_bytes 1 0x61
    ++ le_bytes 1 1 ++ le_bytes 2 1 ++ le_bytes 1 0x62
    ++ replicate 4072 0

pub sample-fields : fault_of 4 0x80000000 two_names ≡ Err (mk_fault rule.FieldTwice 0 1 20 0x101 0)
unfolding two_names fault_of rules_fault plat_fault fields_fault walk_fault field_tests field_fault none_seen seen_with is_seen length_ok first_fault
    unless mk_fault place_ok edition_ok core section_count version_ok above_of major_of minor_of num_at part le_bytes le_of either both
sample-fields = refl
