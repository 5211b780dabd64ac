-- Versions (VN1 to VN4). Assumes nothing.
use Rattle.std.specs.Prelude.{ℕ, ◌/◌, ◌%◌, ◌^◌, min, Bool, leb, ltb, eqb}
use Rattle.words.specs.Tests.{both}

-- the minor: bits 0 to 15 (VN1)
unfoldable pub minor_of : ℕ → ℕ
minor_of v = v % 2 ^ 16

-- the major: bits 16 to 30 (VN1)
unfoldable pub major_of : ℕ → ℕ
major_of v = v / 2 ^ 16 % 2 ^ 15

-- all bits above bit 30, which are zero in a version (VN1)
unfoldable pub above_of : ℕ → ℕ
above_of v = v / 2 ^ 31

-- "Accepted here, for boot interface and manifest alike (house rule): bit 31 zero, major 0, minor 1 or more." (VN3)
unfoldable pub version_ok : ℕ → Bool
version_ok v = both (eqb (above_of v) 0) (both (eqb (major_of v) 0) (leb 1 (minor_of v)))

-- whether a is later than b: versions compare as numbers, the major above the minor (VN2)
unfoldable pub later : ℕ → ℕ → Bool
later a b = ltb b a

-- "The agreed interface minor is the smaller of 5 and the offered minor." (VN4)
unfoldable pub agreed : ℕ → ℕ
agreed v = min 5 (minor_of v)
