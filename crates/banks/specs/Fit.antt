-- BN4 to BN7 in plain facts: which banks the set-up accepts. Uses no definition that the code is proved against. Assumes nothing.
use Rattle.std.specs.Prelude.{◌≡◌, ℕ, zero, suc, ◌+◌, ◌-◌, ◌*◌, ◌/◌, ◌%◌, ◌^◌, ◌<◌, ◌≤◌, List, slice_index, slice_index_or}

-- the number of granules of the first n banks
abbrev pub granules_to : (ℕ → ℕ) → ℕ → ℕ
granules_to size zero = 0
granules_to size (suc n) = granules_to size n + size n / 4096

-- `count` banks, by their bases and sizes, and a table of n granules: none of "no bank, .. more than 16, a bank that breaks the reader's
-- rule, banks not ascending or overlapping, or a table length that differs from the sum" (BN4.2 to BN4.5)
pub record BanksFit (base size : ℕ → ℕ) (count n : ℕ) : Type 0 where
  pub some : 1 ≤ count
  pub few : count ≤ 16
  pub base-whole : (i : ℕ) → i < count → base i % 4096 ≡ 0
  pub size-whole : (i : ℕ) → i < count → size i % 4096 ≡ 0
  pub size-some : (i : ℕ) → i < count → 0 < size i
  pub ends : (i : ℕ) → i < count → base i + size i ≤ 2 ^ 52
  pub ascends : (i : ℕ) → suc i < count → base i + size i ≤ base (suc i)
  pub sum : granules_to size count ≡ n

-- "the table is the banks' granules joined in bank order. An address in a hole is not a granule address." (BN6, BN7): the record's banks
-- fit a table of n granules, the address is in `bank`, and it is granule i, after those of the banks before
pub record LiesAt (g : List ℕ) (n addr i : ℕ) : Type 0 where
  pub fits : BanksFit (λ k. slice_index g (1 + 2 * k)) (λ k. slice_index g (2 + 2 * k)) (slice_index g 0) n
  pub whole : addr % 4096 ≡ 0
  pub bank : ℕ
  pub in-record : bank < slice_index g 0
  pub from : slice_index_or g (1 + 2 * bank) 0 ≤ addr
  pub below : addr < slice_index g (1 + 2 * bank) + slice_index g (2 + 2 * bank)
  pub index : i ≡ granules_to (λ k. slice_index g (2 + 2 * k)) bank + (addr - slice_index g (1 + 2 * bank)) / 4096
