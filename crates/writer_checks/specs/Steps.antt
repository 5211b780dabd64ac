-- For the loops of `writer_checks`. Laws of proofs/Described.antt: `to-joined` proves `sum_to 4` equal to the length of the joined lists, which `used` counts;
-- `late-same` proves `late_to` at the edition's section count equal to `later_sections_empty`. Assumes nothing.
use Rattle.std.specs.Prelude.{ℕ, zero, suc, ◌+◌, Bool, List, ◌==◌, nat_lt, slice_index}
use Rattle.words.specs.Tests.{either, every}

-- the sum of the first `k` lengths of `n`
unfoldable pub sum_to : ℕ → List ℕ → ℕ
sum_to zero n = 0
sum_to (suc k) n = sum_to k n + slice_index n k

-- whether the lists [from, k) are empty, by their lengths `n`
unfoldable pub late_to : ℕ → ℕ → List ℕ → Bool
late_to from k n = every k (λ j. either (nat_lt j from) (slice_index n j == 0))
