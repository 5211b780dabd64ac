-- When the writer refuses and with which number: W1 to W5 as plain facts, without the tests and tables that the code is proved against. `n`
-- is the length of the lent page. Assumes nothing.
use Rattle.std.specs.Prelude.{ℕ, ◌+◌, ◌*◌, ◌/◌, ◌%◌, ◌≤◌, ◌<◌, ◌≡◌, List, length, get_or}
use Rattle.entries.specs.Facts.{BankFacts, ConsoleFacts}
use Rattle.fields.specs.Fields.{Field}
use Rattle.fields.specs.Facts.{fields_bytes, field_no, FieldsKeep}
use Rattle.sections.specs.Facts.{PlaceFacts}
use Rattle.writer_checks.specs.Description.{Description}
use Rattle.writer_rules.specs.Write.{no-page, write_of}

-- "W1 as -5" is `PlaceFacts`. "W2 edition not 1 to 4"
abbrev pub EditionFacts : ℕ → Type 0
EditionFacts v = (1 ≤ v) × (v ≤ 4)

-- Request E10: "W3 for a description with tag 3"
abbrev pub NoneWithdrawn : List Field → Type 0
NoneWithdrawn fs = (i : ℕ) → i < length fs → (field_no i fs).tag ≡ 3 → ⊥

-- "W3 list length not a whole number of entries, or an entry that breaks a reader's rule": "2 words an entry, 6 for a console"; consoles
-- are list 1
pub record DescriptionFacts (v : ℕ) (d : Description) : Type 0 where
  pub whole_banks : (k : ℕ) → k < 4 → (k ≡ 1 → ⊥) → length (d.lists k) % 2 ≡ 0
  pub whole_consoles : length (d.lists 1) % 6 ≡ 0
  pub banks : (k i : ℕ) → k < 4 → (k ≡ 1 → ⊥) → i < length (d.lists k) / 2 →
      BankFacts (get_or (d.lists k) (2 * i) 0) (get_or (d.lists k) (2 * i + 1) 0)
  pub consoles : (i : ℕ) → i < length (d.lists 1) / 6 →
      ConsoleFacts v (get_or (d.lists 1) (6 * i) 0) (get_or (d.lists 1) (6 * i + 1) 0) (get_or (d.lists 1) (6 * i + 5) 0)
  -- Request E7: "broken fields are .. W3 in the writer, there also any tag 0"
  pub fields : List Field
  pub bytes : d.fields ≡ fields_bytes fields
  pub keep : FieldsKeep fields
  pub unwithdrawn : NoneWithdrawn fields

-- "W4 a nonempty list for a section after the edition": "plat_dram | 2", "plat_console | 3", "plat_ncoh_region | 4", "plat_coh_region | 4"
abbrev pub LateFacts : ℕ → Description → Type 0
LateFacts v d =
    (v < 2 → length (d.lists 0) ≡ 0) × (v < 3 → length (d.lists 1) ≡ 0) × (v < 4 → length (d.lists 2) ≡ 0) ×
    (v < 4 → length (d.lists 3) ≡ 0)

-- "W5 core and arrays exceed 4,096 bytes"; request E7: "W5 counts the fields and, if there are any, their end mark". The core takes s
-- bytes.
abbrev pub RoomAfter : ℕ → Description → Type 0
RoomAfter s d =
    (length d.fields ≡ 0 → s + 8 * (length (d.lists 0) + length (d.lists 1) + length (d.lists 2) + length (d.lists 3)) ≤ 4096)
    × (0 < length d.fields →
    s + 8 * (length (d.lists 0) + length (d.lists 1) + length (d.lists 2) + length (d.lists 3)) + length d.fields + 3 ≤ 4096)

-- "Core sizes are 16, 40, 64 and 112 bytes for editions 1 to 4" (ML2)
abbrev pub RoomFacts : ℕ → Description → Type 0
RoomFacts v d = (v ≡ 1 → RoomAfter 16 d) × (v ≡ 2 → RoomAfter 40 d) × (v ≡ 3 → RoomAfter 64 d) × (v ≡ 4 → RoomAfter 112 d)

-- no refusal: all of W1 to W5 pass
pub record Unrefused (base n v : ℕ) (d : Description) : Type 0 where
  pub place : PlaceFacts base n
  pub edition : EditionFacts v
  pub description : DescriptionFacts v d
  pub late : LateFacts v d
  pub room : RoomFacts v d

-- WR3: "Writer refusals, in order": each number if its facts fail and all facts before it hold
pub record WriteRefuses (base n v : ℕ) (d : Description) : Type 0 where
  pub w1 : (PlaceFacts base n → ⊥) → write_of base n v d ≡ no-page 1
  pub w2 : PlaceFacts base n → (EditionFacts v → ⊥) → write_of base n v d ≡ no-page 2
  pub w3 : PlaceFacts base n → EditionFacts v → (DescriptionFacts v d → ⊥) → write_of base n v d ≡ no-page 3
  pub w4 : PlaceFacts base n → EditionFacts v → DescriptionFacts v d → (LateFacts v d → ⊥) → write_of base n v d ≡ no-page 4
  pub w5 : PlaceFacts base n → EditionFacts v → DescriptionFacts v d → LateFacts v d → (RoomFacts v d → ⊥) → write_of base n v d ≡ no-page 5
