-- The bytes that an edition does not name (RD13, RD14). Assumes nothing.
use Rattle.std.specs.Prelude.{ℕ, min, ◌+◌, ◌≤◌, ◌<◌, true, false, ◌⊎◌, ◌≡◌, List, length}
use Rattle.versions.specs.Version.{minor_of, version_ok}
use Rattle.versions.specs.Edition.{section_count, core}
use Rattle.entries.specs.Entry.{size}
use Rattle.words.specs.Word.{word_at}
use Rattle.fields.specs.Fields.{is_ended, taken}
use Rattle.sections.specs.Page.{version_at, count_at, pointer_at, in_page, found_at}
use Rattle.reader.specs.Answer.{named}

-- byte i is before or after the array of section k, or that array is not within the page
abbrev pub BesideArray : ℕ → List ℕ → ℕ → ℕ → Type 0
BesideArray base page i k =
    (base + i < pointer_at k page)
    ⊎ ((pointer_at k page + size k (count_at k page) ≤ base + i) ⊎ (in_page base (pointer_at k page) (size k (count_at k page)) ≡ false))

-- byte i is before the fields, or after the end mark of fields that have one, or their pointer is not within the page. If the fields are
-- broken, every byte from the pointer to the page's end is named, so no byte is after them.
abbrev pub BesideFields : ℕ → List ℕ → ℕ → Type 0
BesideFields base page i =
    (base + i < word_at 8 page)
    ⊎ (((is_ended (found_at base page (word_at 8 page)) ≡ true) × (word_at 8 page + taken (found_at base page (word_at 8 page)) ≤ base + i)) ⊎
    (in_page base (word_at 8 page) 1 ≡ false))

-- no byte is named except those of RD13 and RD14; the edition is min(r, w), w being the page's minor
pub record OthersUnnamed (r base : ℕ) (page : List ℕ) : Type 0 where
  -- "The bytes an edition names are its core and each array that its sections place within the page" (RD13), and the fields
  pub gap : (i : ℕ) → core (min r (minor_of (version_at page))) ≤ i →
      ((k : ℕ) → k < section_count (min r (minor_of (version_at page))) → BesideArray base page i k) → BesideFields base page i →
      named r base page i ≡ false
  -- "if the version is not accepted, the first 16 bytes only" (RD13)
  pub unknown : (i : ℕ) → 16 ≤ i → version_ok (version_at page) ≡ false → named r base page i ≡ false
  -- "Of a lent page not 4,096 bytes long none are named." (RD13)
  pub cut : (i : ℕ) → (length page ≡ 4096 → ⊥) → named r base page i ≡ false
