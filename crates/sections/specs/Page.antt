-- What a page holds: the page is the shared buffer, 4,096 bytes at physical base B (PG1). Assumes nothing.
use Rattle.std.specs.Prelude.{ℕ, ◌+◌, ◌-◌, ◌*◌, ◌%◌, ◌^◌, Bool, cond, List, [], drop, leb, ltb, eqb}
use Rattle.words.specs.Tests.{both}
use Rattle.words.specs.Word.{part, word_at, u32_at}
use Rattle.fields.specs.Fields.{Scanned, broken, ended, scan_of}
use Rattle.entries.specs.Entry.{size}

-- code -5: "page length not 4,096; B zero, not a multiple of 4,096, or above 2^52 - 4,096" (P1, P2)
unfoldable pub place_ok : ℕ → ℕ → Bool
place_ok base n = both (eqb n 4096) (both (ltb 0 base) (both (eqb (base % 4096) 0) (leb base (2 ^ 52 - 4096))))

-- offset 0: version, 4 bytes (ML1)
abbrev pub version_at : List ℕ → ℕ
version_at page = u32_at 0 page

-- offset 4: padding, 4 bytes, zero (ML1)
abbrev pub padding_at : List ℕ → ℕ
padding_at page = u32_at 4 page

-- "A section is 24 bytes: count, pointer, checksum." The first, plat_dram, is at offset 16. The count of section k (ML3):
abbrev pub count_at : ℕ → List ℕ → ℕ
count_at k page = word_at (16 + 24 * k) page

-- the pointer of section k (ML3)
abbrev pub pointer_at : ℕ → List ℕ → ℕ
pointer_at k page = word_at (24 + 24 * k) page

-- the checksum of section k (ML3)
abbrev pub check_at : ℕ → List ℕ → ℕ
check_at k page = word_at (32 + 24 * k) page

-- [p, p + n) is within the page
unfoldable pub in_page : ℕ → ℕ → ℕ → Bool
in_page base p n = both (leb base p) (leb (p + n) (base + 4096))

-- the bytes of [p, p + n); none if they are not within the page
unfoldable pub array_at : ℕ → List ℕ → ℕ → ℕ → List ℕ
array_at base page p n = cond (in_page base p n) (part (p - base) n page) []

-- Everything that the page holds of section k: its three words, and the bytes of its array. No rule uses more of the page than this.
pub record PageSection : Type 0 where
  pub count : ℕ
  pub ptr : ℕ
  pub chk : ℕ
  pub bytes : List ℕ

-- a section with count c, pointer p, checksum s and array bytes b
unfoldable pub page_section : ℕ → ℕ → ℕ → List ℕ → PageSection
page_section c p s b = record { count = c; ptr = p; chk = s; bytes = b }

-- section k of a page at `base`
unfoldable pub page_section_at : ℕ → List ℕ → ℕ → PageSection
page_section_at base page k =
    page_section (count_at k page) (pointer_at k page) (check_at k page)
    (array_at base page (pointer_at k page) (size k (count_at k page)))

-- Everything that the page holds of the platform data: the pointer, and the fields that it points at. Request E7 amended "what it
-- points at is not read" (ML7).
pub record PagePlatform : Type 0 where
  pub at : ℕ
  pub found : Scanned

-- platform data with pointer q and scan result s
unfoldable pub page_platform : ℕ → Scanned → PagePlatform
page_platform q s = record { at = q; found = s }

-- the fields from address q up to the page's end; E7: "no pointer, shows an empty list"
unfoldable pub found_at : ℕ → List ℕ → ℕ → Scanned
found_at base page q = cond (eqb q 0) (ended [] 0) (cond (in_page base q 1) (scan_of (drop (q - base) page)) broken)

-- offset 8: the plat_data pointer, with its fields (ML1)
unfoldable pub platform_at : ℕ → List ℕ → PagePlatform
platform_at base page = page_platform (word_at 8 page) (found_at base page (word_at 8 page))
