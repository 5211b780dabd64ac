-- When a reader accepts: the conditions of RD2 as plain facts, without the tests that the code is proved against. Assumes nothing.
use Rattle.std.specs.Prelude.{ℕ, ◌+◌, ◌*◌, ◌^◌, min, ◌≤◌, ◌<◌, ◌≡◌, ◌⊎◌, List, length}
use Rattle.words.specs.Word.{word_at, u32_at}
use Rattle.versions.specs.Edition.{section_count}
use Rattle.entries.specs.Entry.{size}
use Rattle.fields.specs.Fields.{Field, shown_fields}
use Rattle.sections.specs.Facts.{PlaceFacts, SectionFacts, ApartFacts, PlatFacts}
use Rattle.reader.specs.Answer.{Shown, PlatShown, refused, shows, minus, read_of}
use Rattle.reader.specs.Views.{PageShown}

-- a reader of edition r and a page of version v: none of "reader edition not 1 to 4; manifest version not accepted"; "bit 31 zero, major
-- 0, minor 1 or more" (V1, V2)
abbrev pub VersionFacts : ℕ → ℕ → Type 0
VersionFacts r v = (1 ≤ r) × (r ≤ 4) × (1 ≤ v) × (v < 2 ^ 16)

-- A reader of edition r, on a page of minor w, works with e = min(r, w). "It accepts when all hold" (RD2):
pub record Accepts (r base : ℕ) (page : List ℕ) (w e : ℕ) : Type 0 where
  -- no -5: P1 and P2 hold
  pub place : PlaceFacts base (length page)
  -- no -6: V1 and V2 hold; the version of such a page equals its minor
  pub version : VersionFacts r (u32_at 0 page)
  pub minor : w ≡ u32_at 0 page
  pub edition : e ≡ min r w
  -- "padding is zero" (R1)
  pub padding : u32_at 4 page ≡ 0
  -- plat_data, and the fields that it points at, which take `taken` bytes through their end mark
  pub fields : List Field
  pub taken : ℕ
  pub plat : PlatFacts e base page fields taken
  -- each section of e by itself
  pub sections : (k : ℕ) → k < section_count e → SectionFacts w e base page k
  -- "no two arrays overlap" (S5)
  pub apart : (j k : ℕ) → j < k → k < section_count e →
      ApartFacts j (word_at (16 + 24 * j) page) (word_at (24 + 24 * j) page) k (word_at (16 + 24 * k) page) (word_at (24 + 24 * k) page)
  -- Request E7: fields "overlap no array that the reader reads" (F5)
  pub clear : (k : ℕ) → k < section_count e →
      (word_at 8 page + taken ≤ word_at (24 + 24 * k) page) ⊎ (word_at (24 + 24 * k) page + size k (word_at (16 + 24 * k) page) ≤ word_at 8 page)

-- what is shown of the platform data
abbrev pub plat_with : List ℕ → List Field → PlatShown
plat_with page fs = record { pointer = word_at 8 page; fields = shown_fields fs }

-- the answer to such a page: w, e, plat_data, the fields and each section as the page has them
pub record ReadsPage (r base : ℕ) (page : List ℕ) (w e : ℕ) (fs : List Field) : Type 0 where
  pub shown : ℕ → Shown
  pub answer : read_of r base page ≡ shows w e (plat_with page fs) shown
  pub view : PageShown r base page w e (plat_with page fs) shown

-- the conditions hold for an accepted page, and the answer shows the fields that they name
pub record AcceptedPage (r base : ℕ) (page : List ℕ) (w e : ℕ) (q : PlatShown) : Type 0 where
  pub conditions : Accepts r base page w e
  pub plat : q ≡ plat_with page conditions.fields

-- "in this order of checks" (RD2): the code of a page that does not meet the conditions
pub record Refuses (r base : ℕ) (page : List ℕ) : Type 0 where
  pub place : (PlaceFacts base (length page) → ⊥) → read_of r base page ≡ refused (minus 5)
  pub version : PlaceFacts base (length page) → (VersionFacts r (u32_at 0 page) → ⊥) → read_of r base page ≡ refused (minus 6)
  -- "-7: any other manifest rule broken" (RD2)
  pub rules : PlaceFacts base (length page) → VersionFacts r (u32_at 0 page) → ((w e : ℕ) → Accepts r base page w e → ⊥) →
      read_of r base page ≡ refused (minus 7)
