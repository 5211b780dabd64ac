-- E7's rules as plain facts, without the tests that the code is proved against; and fields as bytes. Assumes nothing.
use Rattle.std.specs.Prelude.{ℕ, ◌+◌, ◌-◌, ◌^◌, ◌≤◌, ◌<◌, ◌≡◌, List, [], ◌∷◌, ◌++◌, length, get_or, drop}
use Rattle.words.specs.Word.{le_bytes, part, num_at}
use Rattle.fields.specs.Fields.{Field, mk_field}

-- the bytes of a field, on a page and in the writer's description: "A field is one byte of tag, two of length, the value." (FD1)
unfoldable pub field_bytes : ℕ → List ℕ → List ℕ
field_bytes t v = t ∷ (le_bytes 2 (length v) ++ v)

-- fields one after another, without an end mark
unfoldable pub fields_bytes : List Field → List ℕ
fields_bytes [] = []
fields_bytes (f ∷ fs) = field_bytes f.tag f.value ++ fields_bytes fs

-- "Tag 1 is the board name, 1 to 32 bytes; tag 2 the serial, 8 bytes; tag 3 the preferred console, 1 byte, any value." (FD2): the rules of
-- a field with tag t and a value of n bytes. Tag 0 is not a field; a length has two bytes.
abbrev pub FieldFacts : ℕ → ℕ → Type 0
FieldFacts t n = (t ≡ 0 → ⊥) × (t ≡ 1 → (1 ≤ n) × (n ≤ 32)) × (t ≡ 2 → n ≡ 8) × (t ≡ 3 → n ≡ 1) × (n < 2 ^ 16)

-- field i of a list
abbrev pub field_no : ℕ → List Field → Field
field_no i fs = get_or fs i (mk_field 0 [])

-- a list of fields keeps the rules (F2 to F4)
pub record FieldsKeep (fs : List Field) : Type 0 where
  pub each : (i : ℕ) → i < length fs → FieldFacts (field_no i fs).tag (length (field_no i fs).value)
  -- "Tags 1 to 3 appear at most once; tags from 4 up may repeat" (F4)
  pub once : (i j : ℕ) → i < j → j < length fs → (field_no i fs).tag ≡ (field_no j fs).tag → 4 ≤ (field_no i fs).tag

-- The bytes bs start with the fields fs, one after another, and an end mark; n is the number of bytes through the mark. "Tag 0 with length
-- 0 ends them" (FD1)
abbrev pub FieldsStand : List ℕ → List Field → ℕ → Type 0
FieldsStand bs [] n = (3 ≤ length bs) × (get_or bs 0 0 ≡ 0) × (num_at 2 1 bs ≡ 0) × (n ≡ 3)
FieldsStand bs (f ∷ fs) n =
    (3 + length f.value ≤ length bs) × (get_or bs 0 0 ≡ f.tag) × (num_at 2 1 bs ≡ length f.value) ×
    (part 3 (length f.value) bs ≡ f.value)
    × (3 + length f.value ≤ n) × FieldsStand (drop (3 + length f.value) bs) fs (n - (3 + length f.value))
