-- `found-is` (proofs/Fast.antt) proves the granule of `found_from` equal to `granule_at`, and `first-is` that of `first_bank`. For speed: a
-- call checks the record once, a list looks first in the bank of the address before, and one bank needs no search. Assumes nothing.
use Rattle.std.specs.Prelude.{ℕ, ◌+◌, ◌/◌, ◌%◌, ◌^◌, Bool, cond, List, [], ◌∷◌, ◌==◌, nat_le, slice_index, Option, Some, None}
use Rattle.words.specs.Tests.{both}
use Rattle.entries.specs.Entry.{bank_ok}
use Rattle.banks.specs.Banks.{Granules, Bank, bank_count, banks_of, holds, index_in}
use Rattle.banks.specs.declared.BankSpan.{BankSpan}
use Rattle.banks.specs.declared.Found.{Found}

-- a bank that holds no address
abbrev pub no_bank : BankSpan
no_bank = record { base = 0; size = 0; before = 0 }

-- the granule of an address in one bank, after those of the banks before it; the sum is modulo 2^64, because any bank may be passed
unfoldable pub granule_in : BankSpan → (addr : ℕ) → Option ℕ
granule_in b addr =
    cond (both (addr % 4096 == 0) (holds b.base b.size addr)) (Some (index_in b.before b.base addr % 2 ^ 64)) None

-- the first bank that holds the address; the banks are not checked
unfoldable pub bank_among : (before : ℕ) → List Bank → (addr : ℕ) → BankSpan
bank_among before [] addr = no_bank
bank_among before (b ∷ bs) addr =
    cond (holds b.base b.size addr) (record { base = b.base; size = b.size; before = before })
    (bank_among (before + b.size / 4096) bs addr)

-- the same for a record of at most 16 banks
unfoldable pub bank_of : Granules → (addr : ℕ) → BankSpan
bank_of g addr = cond (nat_le (bank_count g) 16) (bank_among 0 (banks_of g) addr) no_bank

-- the result for granule k in bank b: k and b; if k is nothing, the granule in the first bank that holds the address, and that bank
unfoldable pub found_in : Granules → BankSpan → (addr : ℕ) → Option ℕ → Found
found_in g b addr (Some i) = record { granule = Some i; bank = b }
found_in g b addr None = record { granule = granule_in (bank_of g addr) addr; bank = bank_of g addr }

-- the granule of an address and its bank, looking in b first
unfoldable pub found_from : Granules → BankSpan → (addr : ℕ) → Found
found_from g b addr = found_in g b addr (granule_in b addr)

-- ---- a record of one bank, which the set-up accepts for n granules
unfoldable pub has_one_bank : Granules → (n : ℕ) → Bool
has_one_bank g n = both (slice_index g 0 == 1) (both (slice_index g 2 / 4096 == n) (bank_ok (slice_index g 1) (slice_index g 2)))

-- the first bank of a record
abbrev pub first_bank : Granules → BankSpan
first_bank g = record { base = slice_index g 1; size = slice_index g 2; before = 0 }
