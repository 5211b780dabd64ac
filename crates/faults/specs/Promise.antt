-- What a diagnosis states about a page, rule by rule, as facts about its bytes. Assumes nothing.
use Rattle.std.specs.Prelude.{◌≡◌, ℕ, zero, suc, ◌+◌, ◌-◌, ◌*◌, ◌%◌, ◌^◌, ◌<◌, ◌≤◌, min, true, false, cond, List, length, ◌==◌, ◌≢◌, slice_index, Ok, Err}
use Rattle.words.specs.Word.{num_at, word_at, u32_at, le_bytes, laid}
use Rattle.versions.specs.Version.{minor_of, version_ok}
use Rattle.versions.specs.Edition.{section_count, core}
use Rattle.entries.specs.Entry.{size, sum}
use Rattle.entries.specs.Array.{words_at, entry_place}
use Rattle.entries.specs.Steps.{entries_at}
use Rattle.fields.specs.Fields.{length_ok, taken}
use Rattle.sections.specs.Page.{version_at, count_at, pointer_at, check_at, page_section, page_section_at, found_at, platform_at}
use Rattle.sections.specs.Section.{section_ok}
use Rattle.sections.specs.Steps.{ok_at, ok_to, end_of, apart_to}
use Rattle.reader.specs.Answer.{Shown, PlatShown, all_shown, refused, shows, read_of}
use Rattle.reader.specs.Reading.{refusal_number}
use Rattle.faults.specs.Faults.{refusal_of, fault_of}
use Rattle.faults.specs.declared.Rule.{Rule}
use Rattle.faults.specs.declared.Rule.TheVariants as rule
use Rattle.faults.specs.declared.Fault.{Fault}

-- the offset of field j of a page whose first field is at offset `from`
unfoldable pub field_place : ℕ → List ℕ → ℕ → ℕ
field_place from page zero = from
field_place from page (suc j) = field_place from page j + 3 + num_at 2 (field_place from page j + 1) page

-- the unit of the second word of an entry: 1 byte for a bank or region, 4,096 for the pages of a console
unfoldable pub unit : ℕ → ℕ
unit k = cond (k == 1) 4096 1

-- the words of the array of section k
abbrev pub array_words : ℕ → ℕ → List ℕ → List ℕ
array_words base k page = words_at k (count_at k page) (pointer_at k page - base) page

-- the fault reports offset n and the word there
abbrev pub WordAt : List ℕ → ℕ → Fault → Type 0
WordAt page n f = (f.offset ≡ n) × (f.found ≡ word_at n page)

-- the fault reports offset n and the 4 bytes there
abbrev pub HalfAt : List ℕ → ℕ → Fault → Type 0
HalfAt page n f = (f.offset ≡ n) × (f.found ≡ u32_at n page)

-- the section is the first of the edition that breaks its rule by itself, and the fault reports the word at n + 24 * section
abbrev pub InSection : ℕ → ℕ → ℕ → List ℕ → ℕ → Fault → Type 0
InSection w e base page n f = (f.section < section_count e) × (ok_to w e base f.section page ≡ true) × WordAt page (n + 24 * f.section) f

-- the entry is the first of its section that breaks its rule, and the fault reports word d of it
abbrev pub InEntry : ℕ → ℕ → ℕ → List ℕ → ℕ → Fault → Type 0
InEntry w e base page d f =
    (f.section < section_count e) × (ok_to w e base f.section page ≡ true) × (f.index < count_at f.section page)
    × (entries_at w f.section (pointer_at f.section page - base) f.index page ≡ true)
    × WordAt page (entry_place f.section (pointer_at f.section page - base) f.index + 8 * d) f

-- the fault reports field `index`: its offset, and tag + 256 * length
abbrev pub InField : ℕ → List ℕ → Fault → Type 0
InField base page f =
    (f.offset ≡ field_place (word_at 8 page - base) page f.index) ×
    (f.found ≡ slice_index page f.offset + 256 * num_at 2 (f.offset + 1) page)

-- the rule is broken, for a page of minor w that a reader of edition r reads as edition e
abbrev pub BrokenAs : (rule : Rule) (reader minor edition base : ℕ) (page : List ℕ) (fault : Fault) → Type 0
BrokenAs rule.Length r w e base page f = (length page ≢ 4096) × (f.found ≡ length page)
BrokenAs rule.Base r w e base page f = ((0 < base) × (base % 4096 ≡ 0) × (base ≤ 2 ^ 52 - 4096) → ⊥) × (f.found ≡ base)
BrokenAs rule.Edition r w e base page f = ((1 ≤ r) × (r ≤ 4) → ⊥) × (f.found ≡ r)
BrokenAs rule.Version r w e base page f = (version_ok f.found ≡ false) × HalfAt page 0 f
BrokenAs rule.Padding r w e base page f = (f.found ≢ 0) × HalfAt page 4 f
BrokenAs rule.PlatPointer r w e base page f =
    (f.found ≢ 0) × ((base + core e ≤ f.found) × (f.found < base + 4096) → ⊥) × WordAt page 8 f
BrokenAs rule.NoEndMark r w e base page f = (length page < f.offset + 3 + num_at 2 (f.offset + 1) page) × InField base page f
BrokenAs rule.FieldTag r w e base page f = (slice_index page f.offset ≡ 0) × (num_at 2 (f.offset + 1) page ≢ 0) × InField base page f
BrokenAs rule.FieldLength r w e base page f =
    (length_ok (slice_index page f.offset) (num_at 2 (f.offset + 1) page) ≡ false) × InField base page f
BrokenAs rule.FieldTwice r w e base page f =
    ((j : ℕ) × (j < f.index) × (slice_index page (field_place (word_at 8 page - base) page j) ≡ slice_index page f.offset))
    × (1 ≤ slice_index page f.offset) × (slice_index page f.offset ≤ 3) × InField base page f
BrokenAs rule.EmptySection r w e base page f =
    (f.found ≡ 0) × ((pointer_at f.section page ≡ 0) × (check_at f.section page ≡ 0) → ⊥) × InSection w e base page 16 f
BrokenAs rule.ArrayPointer r w e base page f = (f.found % 8 ≢ 0) × InSection w e base page 24 f
BrokenAs rule.ArrayPlace r w e base page f =
    ((base + core e ≤ f.found) × (f.found + size f.section (count_at f.section page) ≤ base + 4096) → ⊥) ×
    InSection w e base page 24 f
BrokenAs rule.EntryBase r w e base page f = (f.found % 4096 ≢ 0) × InEntry w e base page 0 f
BrokenAs rule.EntrySize r w e base page f = (f.found % 4096 ≢ 0) × InEntry w e base page 1 f
BrokenAs rule.EntryEmpty r w e base page f = (f.found ≡ 0) × InEntry w e base page 1 f
BrokenAs rule.EntryEnd r w e base page f = (2 ^ 52 < word_at (f.offset - 8) page + unit f.section * f.found) × InEntry w e base page 1 f
BrokenAs rule.EntryFlags r w e base page f = (f.found ≢ 0) × (w ≤ 4) × InEntry w e base page 5 f
-- with the wanted checksum the section keeps its rule
BrokenAs rule.Checksum r w e base page f =
    ((count_at f.section page + pointer_at f.section page + sum (array_words base f.section page) + f.found) % 2 ^ 64 ≢ 0)
    × (f.wanted < 2 ^ 64) × (base + core e ≤ pointer_at f.section page)
    × (section_ok w e base f.section (page_section (count_at f.section page) (pointer_at f.section page) f.wanted
    (page_section_at base page f.section).bytes) ≡ true)
    × InSection w e base page 32 f
BrokenAs rule.ArrayOverlap r w e base page f =
    (pointer_at f.section page < end_of f.index page) × (pointer_at f.index page < end_of f.section page) × (f.index < f.section)
    × (f.section < section_count e) × (ok_to w e base (section_count e) page ≡ true) × (apart_to f.section page ≡ true) ×
    WordAt page (24 + 24 * f.section) f
BrokenAs rule.FieldsOverlap r w e base page f =
    (f.found < end_of f.index page) × (pointer_at f.index page < f.found + taken (found_at base page f.found)) ×
    (f.index < section_count e)
    × (ok_to w e base (section_count e) page ≡ true) × (apart_to (section_count e) page ≡ true) × WordAt page 8 f

-- the fault's rule is broken
abbrev pub Broken : ℕ → ℕ → List ℕ → Fault → Type 0
Broken r base page f = BrokenAs f.rule r (minor_of (version_at page)) (min r (minor_of (version_at page))) base page f

-- what is proved of every diagnosis
pub record Diagnoses (r base : ℕ) (page : List ℕ) : Type 0 where
  -- no fault exactly if the reader accepts, and then it shows the page (RD2, RD10)
  pub accepts : fault_of r base page ≡ Ok tt → read_of r base page ≡ all_shown (minor_of (version_at page)) (min r (minor_of (version_at page)))
      (platform_at base page) (page_section_at base page)
  pub accepted : (w e : ℕ) (q : PlatShown) (s : ℕ → Shown) → read_of r base page ≡ shows w e q s → fault_of r base page ≡ Ok tt
  -- the rule's code is the reader's (RD2)
  pub code : (f : Fault) → fault_of r base page ≡ Err f → read_of r base page ≡ refused (refusal_number (refusal_of f.rule))
  -- the rule is broken at the place reported
  pub broken : (f : Fault) → fault_of r base page ≡ Err f → Broken r base page f
  -- the wanted checksum, written at the offset, makes the section keep its rule
  pub mends : (f : Fault) → fault_of r base page ≡ Err f → f.rule ≡ rule.Checksum →
      ok_at (minor_of (version_at page)) (min r (minor_of (version_at page))) base f.section
      (laid f.offset (le_bytes 8 f.wanted) page) ≡ true
