-- `record-whole` (proofs/Making.antt) proves `record_part` equal to `record_from` after the last word. For the loop of `record_from`. Assumes
-- nothing.
use Rattle.std.specs.Prelude.{ℕ, ◌-◌, List, ◌∷◌, ◌++◌, replicate}
use Rattle.words.specs.Word.{words_of}
use Rattle.banks.specs.Banks.{Granules}

-- a record of n banks with the first i words of their bytes, and zeros after them
unfoldable pub record_part : (n i : ℕ) → List ℕ → Granules
record_part n i shown = n ∷ words_of i shown ++ replicate (32 - i) 0
