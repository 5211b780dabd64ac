-- For speed: one test for the whole number. `whole_in` (proofs/Numbers.antt) proves `whole_big` equal to `big_at 4` if the number is within
-- the slice. Assumes nothing.
use Rattle.std.specs.Prelude.{ℕ, ◌+◌, cond, List, length, leb}
use Rattle.big_words.specs.Big.{big_at}

-- the 4-byte number at an offset; 0 if it is not wholly within `s`
unfoldable pub whole_big : ℕ → List ℕ → ℕ
whole_big off s = cond (leb (off + 4) (length s)) (big_at 4 off s) 0
