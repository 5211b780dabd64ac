-- "An edition is a minor of this layout." (VN5) Assumes nothing.
use Rattle.std.specs.Prelude.{ℕ, zero, suc, ◌+◌, ◌*◌, Bool, leb}
use Rattle.words.specs.Tests.{both}

-- The number of sections of an edition (ML1, ML2), by "Since edition": plat_dram from 2, plat_console from 3, plat_ncoh_region and
-- plat_coh_region from 4. Section k is in edition e if k is below this number.
unfoldable pub section_count : ℕ → ℕ
section_count zero = 0
section_count (suc zero) = 0
section_count (suc (suc zero)) = 1
section_count (suc (suc (suc zero))) = 2
section_count (suc (suc (suc (suc n)))) = 4

-- "Core sizes are 16, 40, 64 and 112 bytes for editions 1 to 4": 16 bytes, and 24 for each section (ML2)
unfoldable pub core : ℕ → ℕ
core e = 16 + 24 * section_count e

-- code -6: "reader edition not 1 to 4" (V1); W2: "edition not 1 to 4"
unfoldable pub edition_ok : ℕ → Bool
edition_ok r = both (leb 1 r) (leb r 4)
