-- For speed: the code sums a list while it checks it. `sums-sound` (proofs/Described.antt) proves that `sums_of` has totals exactly if `lists_ok` holds;
-- `totals_of` defines them as the sums of the words; `sums-told` proves that `sums_number` is 3 exactly if `lists_ok` fails. Assumes nothing.
use Rattle.std.specs.Prelude.{ℕ, ◌%◌, ◌^◌, cond, List, Option, Some, None}
use Rattle.entries.specs.Entry.{sum}
use Rattle.writer_checks.specs.Description.{four_lists, lists_ok}
use Rattle.writer_checks.specs.declared.Totals.{Totals}

-- the sum of each list's words modulo 2^64, for the checksums
unfoldable pub totals_of : List ℕ → List ℕ → List ℕ → List ℕ → Totals
totals_of a b c d = record { dram = sum a % 2 ^ 64; console = sum b % 2 ^ 64; ncoh = sum c % 2 ^ 64; coh = sum d % 2 ^ 64 }

-- the totals on a page of minor `v`, if no list breaks its rule
unfoldable pub sums_of : ℕ → List ℕ → List ℕ → List ℕ → List ℕ → Option Totals
sums_of v a b c d = cond (lists_ok v (four_lists a b c d)) (Some (totals_of a b c d)) None

-- the number of the writer's refusal: 3 for W3, or 0 if there is no refusal
unfoldable pub sums_number : Option Totals → ℕ
sums_number None = 3
sums_number (Some t) = 0
