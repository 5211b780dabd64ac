-- The first fault of a page, in the order of the reader's checks (RD2, RD6, RD7): the rule, its place in the page, and the word found
-- there. Each test is the reader's own (crates sections, entries, fields). Law `accepts` of `Diagnoses` (Promise.antt) proves that there is
-- no fault exactly if the reader accepts. Assumes nothing.
use Rattle.std.specs.Prelude.{ℕ, zero, suc, ◌+◌, ◌-◌, ◌*◌, ◌%◌, ◌^◌, min, Bool, true, false, cond, not, List, length, drop, ℤ, pos, ◌==◌, nat_le, nat_lt, slice_index, slice_index_or, Result, Ok, Err}
use Rattle.words.specs.Tests.{both}
use Rattle.words.specs.Word.{num_at, word_at}
use Rattle.versions.specs.Version.{minor_of, version_ok}
use Rattle.versions.specs.Edition.{section_count, core, edition_ok}
use Rattle.entries.specs.Entry.{flags_ok, sum, check_ok}
use Rattle.entries.specs.Array.{words_at, entry_place}
use Rattle.fields.specs.Fields.{length_ok, taken}
use Rattle.fields.specs.Steps.{is_seen, seen_with, none_seen}
use Rattle.fields.specs.declared.Seen.{Seen}
use Rattle.sections.specs.Page.{place_ok, version_at, padding_at, count_at, pointer_at, check_at, found_at}
use Rattle.sections.specs.Section.{nothing, in_range}
use Rattle.sections.specs.Steps.{end_of, clear_at}
use Rattle.reader.specs.Reading.{refusal_number}
use Rattle.reader.specs.declared.Refusal.{Refusal}
use Rattle.reader.specs.declared.Refusal.TheVariants as refusal
use Rattle.faults.specs.declared.Rule.{Rule}
use Rattle.faults.specs.declared.Rule.TheVariants as rule
use Rattle.faults.specs.declared.Fault.{Fault}

-- a fault: rule, section, index, offset, word found, word wanted
unfoldable pub mk_fault : (rule : Rule) (section index offset found wanted : ℕ) → Fault
mk_fault r k i off x y = record { rule = r; section = k; index = i; offset = off; found = x; wanted = y }

-- a diagnosis: no fault, or the first one
abbrev pub Diagnosis : Type 0
Diagnosis = Result (Unit {0}) Fault

-- ---- how tests are put in order
-- the fault f if the test fails, otherwise d
unfoldable pub unless : Bool → Fault → Diagnosis → Diagnosis
unless true f d = d
unless false f d = Err f

-- the first fault of two diagnoses
unfoldable pub first_fault : Diagnosis → Diagnosis → Diagnosis
first_fault (Ok u) d = d
first_fault (Err f) d = Err f

-- the first fault of f 0, f 1, .. f (n - 1)
unfoldable pub first_of : ℕ → (ℕ → Diagnosis) → Diagnosis
first_of zero f = Ok tt
first_of (suc n) f = first_fault (first_of n f) (f n)

-- ---- an entry: the tests of `entry_rule`, one by one. It is entry i of section k, at offset `at` of the page.
-- "bank and region: base and size multiples of 4,096, size not 0, base + size at most 2^52" (E1 to E4)
unfoldable pub bank_fault : (k i at base size : ℕ) → Diagnosis
bank_fault k i at b s =
    unless (b % 4096 == 0) (mk_fault rule.EntryBase k i at b 0)
    (unless (s % 4096 == 0) (mk_fault rule.EntrySize k i (at + 8) s 0)
    (unless (nat_lt 0 s) (mk_fault rule.EntryEmpty k i (at + 8) s 0)
    (unless (nat_le (b + s) (2 ^ 52)) (mk_fault rule.EntryEnd k i (at + 8) s 0) (Ok tt))))

-- "console: base a multiple of 4,096, map_pages not 0, base + 4,096 x map_pages at most 2^52, flags 0" on a page of minor w (E1, E3 to E5)
unfoldable pub console_fault : (minor k i at base pages flags : ℕ) → Diagnosis
console_fault w k i at b n f =
    unless (b % 4096 == 0) (mk_fault rule.EntryBase k i at b 0)
    (unless (nat_lt 0 n) (mk_fault rule.EntryEmpty k i (at + 8) n 0)
    (unless (nat_le (b + 4096 * n) (2 ^ 52)) (mk_fault rule.EntryEnd k i (at + 8) n 0)
    (unless (flags_ok w f) (mk_fault rule.EntryFlags k i (at + 40) f 0) (Ok tt))))

-- entry i of section k at offset `at` of a page of minor w
unfoldable pub entry_fault : (minor k i at : ℕ) (page : List ℕ) → Diagnosis
entry_fault w k i at page =
    cond (k == 1) (console_fault w k i at (word_at at page) (word_at (at + 8) page) (word_at (at + 40) page))
    (bank_fault k i at (word_at at page) (word_at (at + 8) page))

-- entry i of the array of section k at offset `at`
unfoldable pub entry_of : ℕ → ℕ → ℕ → List ℕ → ℕ → Diagnosis
entry_of w k at page i = entry_fault w k i (entry_place k at i) page

-- ---- a section
-- the correct checksum for count, pointer and the array's words
unfoldable pub wanted_sum : ℕ → ℕ → List ℕ → ℕ
wanted_sum c p ws = (2 ^ 64 - (c + p + sum ws) % 2 ^ 64) % 2 ^ 64

-- the checksum (S4)
unfoldable pub check_fault : (k count pointer check : ℕ) (words : List ℕ) → Diagnosis
check_fault k c p s ws = unless (check_ok c p ws s) (mk_fault rule.Checksum k 0 (32 + 24 * k) s (wanted_sum c p ws)) (Ok tt)

-- the entries in order, then the checksum
unfoldable pub array_fault : (minor k count pointer check at : ℕ) (page : List ℕ) → Diagnosis
array_fault w k c p s at page = first_fault (first_of c (entry_of w k at page)) (check_fault k c p s (words_at k c at page))

-- the tests of `section_ok` (S1 to S4): 24 zero bytes, or count, pointer, place and array
unfoldable pub section_tests : (minor edition base k count pointer check : ℕ) (page : List ℕ) → Diagnosis
section_tests w e base k c p s page =
    cond (nothing c p s) (Ok tt)
    (unless (nat_lt 0 c) (mk_fault rule.EmptySection k 0 (16 + 24 * k) c 0)
    (unless (p % 8 == 0) (mk_fault rule.ArrayPointer k 0 (24 + 24 * k) p 0)
    (unless (in_range e base k c p) (mk_fault rule.ArrayPlace k 0 (24 + 24 * k) p 0) (array_fault w k c p s (p - base) page))))

-- section k of a page of minor w, read as edition e
unfoldable pub section_fault : ℕ → ℕ → ℕ → List ℕ → ℕ → Diagnosis
section_fault w e base page k = section_tests w e base k (count_at k page) (pointer_at k page) (check_at k page) page

-- ---- overlaps: [from, to), whose pointer is at offset off of the page, with the array of section j
unfoldable pub clash : (rule : Rule) (k offset from to : ℕ) (page : List ℕ) (j : ℕ) → Diagnosis
clash r k off from to page j = unless (clear_at from to j page) (mk_fault r k j off from 0) (Ok tt)

-- the array of section i with each array before it, in order (S5)
unfoldable pub overlap : List ℕ → ℕ → Diagnosis
overlap page i = first_of i (clash rule.ArrayOverlap i (24 + 24 * i) (pointer_at i page) (end_of i page) page)

-- ---- the fields, which start at an offset of the page: bs is the page from there on
-- a fault of field i, with tag + 256 * length as the word found (F1 to F4)
unfoldable pub field_fault : (rule : Rule) (i offset tag len : ℕ) → Fault
field_fault r i off t m = mk_fault r 0 i off (t + 256 * m) 0

-- field i at offset `at` of bs, with tag t and length m; s has the tags of the fields before it, n is the length of bs
unfoldable pub field_tests : (seen : Seen) (from i at tag len n : ℕ) → Diagnosis
field_tests s from i at t m n =
    unless (nat_le (at + 3 + m) n) (field_fault rule.NoEndMark i (from + at) t m)
    (cond (t == 0) (unless (m == 0) (field_fault rule.FieldTag i (from + at) t m) (Ok tt))
    (unless (length_ok t m) (field_fault rule.FieldLength i (from + at) t m)
    (unless (not (is_seen s t)) (field_fault rule.FieldTwice i (from + at) t m) (Ok tt))))

-- at most n fields, up to the end mark: enough for at most n bytes. A rule of its own: `fields_fault` is defined by it.
unfoldable pub walk_fault : ℕ → Seen → ℕ → ℕ → ℕ → List ℕ → Diagnosis
walk_fault zero s from i at bs = Err (field_fault rule.NoEndMark i (from + at) (slice_index bs at) (num_at 2 (at + 1) bs))
walk_fault (suc n) s from i at bs =
    let t = slice_index_or bs at 0 in
    let m = num_at 2 (at + 1) bs in
    first_fault (field_tests s from i at t m (length bs)) (cond (t == 0) (Ok tt) (walk_fault n (seen_with s t) from (i + 1) (at + 3 + m) bs))

-- all fields of bs, which starts at offset `from` of the page (F1 to F4)
unfoldable pub fields_fault : ℕ → List ℕ → Diagnosis
fields_fault from bs = walk_fault (length bs) none_seen from 0 0 bs

-- "plat_data is 0 or lies from B + core size of e to B + 4,095" (R2), then its fields
unfoldable pub plat_fault : ℕ → ℕ → ℕ → List ℕ → Diagnosis
plat_fault e base q page =
    cond (q == 0) (Ok tt)
    (unless (both (nat_le (base + core e) q) (nat_lt q (base + 4096))) (mk_fault rule.PlatPointer 0 0 8 q 0)
    (fields_fault (q - base) (drop (q - base) page)))

-- ---- the page
-- the rules with code -7, for a page of minor w read as edition e (RD6, RD7)
unfoldable pub rules_fault : ℕ → ℕ → ℕ → List ℕ → Diagnosis
rules_fault w e base page =
    let q = word_at 8 page in
    unless (padding_at page == 0) (mk_fault rule.Padding 0 0 4 (padding_at page) 0)
    (first_fault (plat_fault e base q page)
    (first_fault (first_of (section_count e) (section_fault w e base page))
    (first_fault (first_of (section_count e) (overlap page))
    (first_of (section_count e) (clash rule.FieldsOverlap 0 8 q (q + taken (found_at base page q)) page)))))

-- the first fault that a reader of edition r finds in a page at base B (RD2)
unfoldable pub fault_of : ℕ → ℕ → List ℕ → Diagnosis
fault_of r base page =
    let v = version_at page in
    unless (length page == 4096) (mk_fault rule.Length 0 0 0 (length page) 4096)
    (unless (place_ok base (length page)) (mk_fault rule.Base 0 0 0 base 0)
    (unless (edition_ok r) (mk_fault rule.Edition 0 0 0 r 0)
    (unless (version_ok v) (mk_fault rule.Version 0 0 0 v 0) (rules_fault (minor_of v) (min r (minor_of v)) base page))))

-- ---- the reader's code for a rule
unfoldable pub refusal_of : Rule → Refusal
refusal_of rule.Length = refusal.Place
refusal_of rule.Base = refusal.Place
refusal_of rule.Edition = refusal.Version
refusal_of rule.Version = refusal.Version
refusal_of rule.Padding = refusal.Rules
refusal_of rule.PlatPointer = refusal.Rules
refusal_of rule.NoEndMark = refusal.Rules
refusal_of rule.FieldTag = refusal.Rules
refusal_of rule.FieldLength = refusal.Rules
refusal_of rule.FieldTwice = refusal.Rules
refusal_of rule.EmptySection = refusal.Rules
refusal_of rule.ArrayPointer = refusal.Rules
refusal_of rule.ArrayPlace = refusal.Rules
refusal_of rule.EntryBase = refusal.Rules
refusal_of rule.EntrySize = refusal.Rules
refusal_of rule.EntryEmpty = refusal.Rules
refusal_of rule.EntryEnd = refusal.Rules
refusal_of rule.EntryFlags = refusal.Rules
refusal_of rule.Checksum = refusal.Rules
refusal_of rule.ArrayOverlap = refusal.Rules
refusal_of rule.FieldsOverlap = refusal.Rules

-- the reader's number for a diagnosis: 0 if there is no fault
unfoldable pub diagnosis_number : Diagnosis → ℤ
diagnosis_number (Ok u) = pos 0
diagnosis_number (Err f) = refusal_number (refusal_of f.rule)
