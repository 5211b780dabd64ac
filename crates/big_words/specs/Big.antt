-- Numbers in bytes, the highest byte first: the little-endian numbers of `words` with their bytes reversed. Request E13: "all numbers
-- 4-byte big-endian" (SB1). Assumes nothing.
use Rattle.std.specs.Prelude.{ℕ, List, reverse}
use Rattle.words.specs.Word.{le_of, le_bytes, part}

-- the number that the bytes encode
unfoldable pub be_of : List ℕ → ℕ
be_of bs = le_of (reverse bs)

-- the `n` low bytes of `x`
unfoldable pub be_bytes : ℕ → ℕ → List ℕ
be_bytes n x = reverse (le_bytes n x)

-- the n-byte number at an offset
unfoldable pub big_at : ℕ → ℕ → List ℕ → ℕ
big_at n off s = be_of (part off n s)
