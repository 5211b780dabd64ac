-- The rules of sections and platform data as plain facts about the page's words, without the tests that the code is proved against. w is
-- the page's minor, e the edition that it is read as. The numbers of the tables that they cite are laws: `core-sizes` (versions),
-- `per-one`, `per-other`, `size-one`, `size-other` (entries). Assumes nothing.
use Rattle.std.specs.Prelude.{ℕ, ◌+◌, ◌-◌, ◌*◌, ◌%◌, ◌^◌, ◌≤◌, ◌<◌, ◌≡◌, ◌⊎◌, List, [], drop}
use Rattle.words.specs.Word.{word_at}
use Rattle.versions.specs.Edition.{core}
use Rattle.entries.specs.Entry.{words_per_entry, size}
use Rattle.entries.specs.Facts.{words_sum, EntriesFacts}
use Rattle.fields.specs.Fields.{Field}
use Rattle.fields.specs.Facts.{FieldsKeep, FieldsStand}

-- a page of n bytes at base B: none of "page length not 4,096; B zero, not a multiple of 4,096, or above 2^52 - 4,096" (P1, P2)
abbrev pub PlaceFacts : ℕ → ℕ → Type 0
PlaceFacts base n = (n ≡ 4096) × (0 < base) × (base % 4096 ≡ 0) × (base ≤ 2 ^ 52 - 4096)

-- section k with count c, pointer p and checksum s: "count 1 or more, a pointer that is a multiple of 8, and an array wholly between the
-- core of e and the page's end" (S1 to S3), "count, pointer, all 8-byte words of the array and the checksum itself sum to 0 modulo 2^64"
-- (S4), and its entries' rules
pub record ArrayFacts (w e base : ℕ) (page : List ℕ) (k c p s : ℕ) : Type 0 where
  pub counted : 1 ≤ c
  pub align : p % 8 ≡ 0
  pub behind : base + core e ≤ p
  pub before : p + size k c ≤ base + 4096
  pub checksum : (c + p + words_sum (p - base) (words_per_entry k * c) page + s) % 2 ^ 64 ≡ 0
  pub entries : EntriesFacts w k c (p - base) page

-- "each section of e is either 24 zero bytes (shown as empty), or has .." these (S1 to S4, RD8); "A section is 24 bytes: count, pointer,
-- checksum" (ML3), the first at 16
abbrev pub SectionFacts : ℕ → ℕ → ℕ → List ℕ → ℕ → Type 0
SectionFacts w e base page k =
    ((word_at (16 + 24 * k) page ≡ 0) × (word_at (24 + 24 * k) page ≡ 0) × (word_at (32 + 24 * k) page ≡ 0))
    ⊎ ArrayFacts w e base page k (word_at (16 + 24 * k) page) (word_at (24 + 24 * k) page) (word_at (32 + 24 * k) page)

-- of two arrays, given section, count and pointer of each, one ends at or before the start of the other
abbrev pub ApartFacts : (k count pointer k' count' pointer' : ℕ) → Type 0
ApartFacts k c p k' c' p' = (p + size k c ≤ p') ⊎ (p' + size k' c' ≤ p)

-- "plat_data is 0 or lies from B + core size of e to B + 4,095"; request E7: "Fields through the end mark must lie in the page". The fields
-- are fs, of n bytes through their end mark; "no pointer, shows an empty list" (FD5)
abbrev pub PlatFacts : ℕ → ℕ → List ℕ → List Field → ℕ → Type 0
PlatFacts e base page fs n =
    ((word_at 8 page ≡ 0) × (fs ≡ []) × (n ≡ 0))
    ⊎ ((base + core e ≤ word_at 8 page) × (word_at 8 page ≤ base + 4095) × FieldsKeep fs ×
    FieldsStand (drop (word_at 8 page - base) page) fs n)
