-- The examples of docs/RULES.md, chapter 23, that are marked *, each proved from the definitions, in one record. Assumes nothing.
use Rattle.std.specs.Prelude.{ℕ, ◌+◌, ◌-◌, ◌%◌, ◌^◌, ◌≤◌, ◌<◌, Bool, true, false, ◌≡◌, refl, List, [], ◌∷◌, ◌++◌, length, get_or, replicate, leb, ltb, Some}
use Rattle.std.proofs.Common.{arith, eqb-true, le-ltb, lt-ltb, le-leb}
use Rattle.std.proofs.lemmas.Bool.{lt-leb}
use Rattle.words.specs.Tests.{both, either, every}
use Rattle.words.proofs.Tests.{either_r}
use Rattle.versions.specs.Version.{minor_of, major_of, above_of, version_ok, later, agreed}
use Rattle.words.specs.Word.{le_of, le_bytes, part, num_at, joined}
use Rattle.versions.specs.Edition.{section_count, core, edition_ok}
use Rattle.entries.specs.Entry.{words_per_entry, size, bank_ok, flags_ok, console_ok, entry_rule, entry_ok, entries_ok, sum, check_ok}
use Rattle.sections.specs.Page.{place_ok, page_section, page_section_at, page_platform, found_at, platform_at}
use Rattle.sections.specs.Section.{platform_ok, nothing, section_ok, extent, apart, clear_before, plat_extent, plat_clear, rules}
use Rattle.reader.specs.Answer.{ReaderAnswer, refused, shows, all_shown, reader_gate, judge, read_of}
use Rattle.fields.specs.Fields.{scan, scan_all, scan_of, judged, fields_ok, lengths_ok, count, taken, is_bare, fields_described, describable}
use Rattle.writer_checks.specs.Description.{four_lists, description_of, list_ok, lists_ok, description_ok, later_sections_empty, with_mark}
use Rattle.writer_checks.specs.Description.{plat_bytes, used}
use Rattle.boot.specs.declared.Params.{Params}
use Rattle.boot.specs.declared.Record.TheVariants.{Up}
use Rattle.codes.specs.Codes.{extended, x0_of, answer_of, is_false, fails, is_up, when_up}
use Rattle.codes.specs.declared.Code.TheVariants.{Ok, BadAddr, BadPas, Inval}
use Rattle.buffer_check.specs.Range.{outside, too_long}
use Rattle.granule_rules.specs.Granules.{GranuleTable, from_byte, is_shared_page, granule_code, move_code, moved_by, fitting, when_fit, move_of}
use Rattle.granule_rules.specs.Granules.{delegate_of}
use Rattle.banks.specs.Banks.{Granules, granule_at}
use Rattle.features.specs.Features.{update_code}
use Rattle.writer_rules.specs.Write.{Made, no-page, a-page, writer_gate, write_of}

-- the bank of example 4: base, size
abbrev bank : List ℕ
bank = 0x90000000 ∷ 0x10000000 ∷ []

-- n equal banks, n equal consoles
abbrev banks : ℕ → List ℕ
banks n = joined n (λ i. bank)

abbrev consoles : ℕ → List ℕ
consoles n = joined n (λ i. 0x90000000 ∷ 1 ∷ 0 ∷ 0 ∷ 0 ∷ 0 ∷ [])

-- the writer's answer for edition v with banks a and consoles b
abbrev making : ℕ → List ℕ → List ℕ → Made
making v a b = write_of 0x80000000 4096 v (description_of a b [] [] [])

-- whether the writer made a page
unfoldable pub is_page : Made → Bool
is_page (no-page n) = false
is_page (a-page p) = true

-- minor and edition of an accepted page, [] for a refused one
unfoldable pub read_with : ReaderAnswer → List ℕ
read_with (refused c) = []
read_with (shows w e q s) = w ∷ e ∷ []

-- the examples
pub record Examples : Type 0 where
  -- "1* Version 0x0000000A is later than 0x00000009." (VN2)
  pub e1 : later 0xA 0x9 ≡ true
  -- It is also above every known minor: a page of that version is read as edition 4, and the agreed minor is 5.
  pub e1-read : read_with (read_of 4 0x80000000 (le_bytes 4 0xA ++ replicate 4092 0)) ≡ 10 ∷ 4 ∷ []
  pub e1-agreed : agreed 0xA ≡ 5
  -- "2* 0x80000005 refused." (VN3)
  pub e2 : version_ok 0x80000005 ≡ false
  -- "3* 0x00010000 refused." (VN3)
  pub e3 : version_ok 0x00010000 ≡ false
  -- "4* Count 1, pointer 0x80000028, bank 0x90000000 of 0x10000000 bytes: checksum 0xFFFFFFFEDFFFFFD7." (ML6) No other checksum is
  -- accepted.
  pub e4 : (s : ℕ) → s < 2 ^ 64 → check_ok 1 0x80000028 bank s ≡ true → s ≡ 0xFFFFFFFEDFFFFFD7
  pub e4-holds : check_ok 1 0x80000028 bank 0xFFFFFFFEDFFFFFD7 ≡ true
  -- "5* Edition 4: 249 banks fit, 250 do not." 250 banks are refused with W5.
  pub e5 : (is_page (making 4 (banks 249) []) ≡ true) × (making 4 (banks 250) [] ≡ no-page 5)
  -- "6* Edition 4: 83 consoles fit, 84 do not; edition 3 holds 84." (ML2, W5)
  pub e6 : (is_page (making 4 [] (consoles 83)) ≡ true) × (making 4 [] (consoles 84) ≡ no-page 5) ×
      (is_page (making 3 [] (consoles 84)) ≡ true)
  -- "7* pa = B + 4,095, size 1 is inside; size 2 too long." (RT8, RT9) Since request E5: if K is at most 4,095.
  pub e7 : (u : Params) → u.kept ≤ 4095 → (outside u (u.base + 4095) ≡ false) × (too_long u (u.base + 4095) 1 ≡ false) ×
      (too_long u (u.base + 4095) 2 ≡ true)
  -- "8* pa = B + 4,096, size 0 is outside." (RT8) For any K.
  pub e8 : (u : Params) → outside u (u.base + 4096) ≡ true
  -- "9* Code -2 in x0 is 0xFFFFFFFFFFFFFFFE." (RT2)
  pub e9 : x0_of BadAddr ≡ 0xFFFFFFFFFFFFFFFE
  -- "10* Delegating a Realm granule: BAD_PAS." (CM2.5), with ceil(granules / 64) realm words (CM2.1)
  pub e10 : (u : Params) (g : Granules) (t : GranuleTable) (addr i : ℕ) → fitting g t ≡ true →
      granule_at g (length t.bytes) addr ≡ Some i → get_or t.bytes i 0 ≡ 1 →
      delegate_of (Up u) g t addr ≡ record { answer = answer_of BadPas 0 0; table = t }
  -- "11* m = 7: mecid 255 passes, 256 does not." (CM8.2)
  pub e11 : (u : Params) → (5 ≤ u.minor → update_code u 7 255 ≡ Ok) × (update_code u 7 256 ≡ Inval)

check-one : (s : ℕ) → s < 2 ^ 64 → check_ok 1 0x80000028 bank s ≡ true → s ≡ 0xFFFFFFFEDFFFFFD7
unfolding check_ok sum
check-one s h t = let e : (1 + 0x80000028 + (0x90000000 + (0x10000000 + 0)) + s) % 2 ^ 64 ≡ 0 = eqb-true _ _ t in omega arith

granted : (u : Params) (g : Granules) (t : GranuleTable) (addr i : ℕ) → fitting g t ≡ true → granule_at g (length t.bytes) addr ≡ Some i →
    get_or t.bytes i 0 ≡ 1 →
    delegate_of (Up u) g t addr ≡ record { answer = answer_of BadPas 0 0; table = t }
unfolding move_of moved_by move_code granule_code is_shared_page from_byte when_fit when_up is_up is_false fails
granted u g t addr i w f b = rw (w, f, b)

-- the proof of all examples
pub examples : Examples
unfolding later agreed read_with read_of judge reader_gate all_shown rules plat_clear plat_extent taken found_at clear_before apart extent section_ok
    nothing platform_ok platform_at page_platform page_section_at page_section size num_at part le_bytes le_of version_ok above_of major_of minor_of
    check_ok sum both either every joined is_page write_of writer_gate place_ok edition_ok description_ok describable is_bare fields_described scan_of
    judged scan_all scan fields_ok lengths_ok count lists_ok list_ok later_sections_empty used plat_bytes with_mark description_of four_lists core
    section_count words_per_entry entries_ok entry_ok entry_rule bank_ok console_ok flags_ok outside too_long x0_of extended update_code fails is_false
examples = record {
  e1 = refl;
  e1-read = refl;
  e1-agreed = refl;
  e2 = refl;
  e3 = refl;
  e4 = check-one;
  e4-holds = refl;
  e5 = (refl, refl);
  e6 = (refl, refl, refl);
  e7 = λ u k. (
    rw (le-ltb (u.base + 4095) (u.base + u.kept) (omega arith), lt-leb (u.base + 4096) (u.base + 4095) (omega arith)),
    le-ltb (u.base + 4096 - (u.base + 4095)) 1 (omega arith),
    lt-ltb (u.base + 4096 - (u.base + 4095)) 2 (omega arith),
  );
  e8 =
      λ u. either_r (ltb (u.base + 4096) (u.base + u.kept)) (leb (u.base + 4096) (u.base + 4096))
      (le-leb (u.base + 4096) (u.base + 4096) (omega arith));
  e9 = refl;
  e10 = granted;
  e11 = λ u. (λ h. rw (le-ltb u.minor 5 h), refl);
}
