-- The granule record of several banks. Request E2: "The granule record shall hold the banks, not one start address; the table is the
-- banks' granules joined in bank order. An address in a hole is not a granule address." (BN1, BN6) Assumes nothing.
use Rattle.std.specs.Prelude.{ℕ, zero, suc, ◌+◌, ◌-◌, ◌*◌, ◌/◌, ◌%◌, Bool, true, cond, List, [], ◌∷◌, ◌++◌, length, replicate, ◌==◌, nat_le, nat_lt, slice_index, Option, Some, None}
use Rattle.std.specs.Option.{option_or}
use Rattle.words.specs.Tests.{both}
use Rattle.words.specs.Word.{word_at, words_of}
use Rattle.entries.specs.Entry.{bank_ok}
use Rattle.codes.specs.Codes.{is_false, fails, if_ok}
use Rattle.codes.specs.declared.Code.{Code}
use Rattle.codes.specs.declared.Code.TheVariants.{Ok, Inval}

-- the record, as its 33 words: the number of banks, then base and size of each. The words after the last bank are not read. (BN5, CE1)
abbrev pub Granules : Type 0
Granules = List ℕ

-- a bank: [base, base + size)
pub record Bank : Type 0 where
  pub base : ℕ
  pub size : ℕ

-- the n banks f i, f (i + 1), ..
unfoldable pub banks_by : (ℕ → Bank) → ℕ → ℕ → List Bank
banks_by f i zero = []
banks_by f i (suc n) = f i ∷ banks_by f (suc i) n

-- bank i of a record, after the count and i pairs of words
abbrev pub bank_at : Granules → ℕ → Bank
bank_at g i = record { base = slice_index g (1 + 2 * i); size = slice_index g (2 + 2 * i) }

-- the number of banks
abbrev pub bank_count : Granules → ℕ
bank_count g = slice_index g 0

-- the banks of a record
abbrev pub banks_of : Granules → List Bank
banks_of g = banks_by (bank_at g) 0 (bank_count g)

-- ---- which banks are accepted
-- the reader's rule for a bank, and its base at or after `low`, the end of the bank before: else "banks not ascending or overlapping"
-- (BN4.4)
unfoldable pub follows : (low base size : ℕ) → Bool
follows low base size = both (nat_le low base) (bank_ok base size)

-- each bank meets the reader's rule and follows the one before
unfoldable pub ascend : ℕ → List Bank → Bool
ascend low [] = true
ascend low (b ∷ bs) = both (follows low b.base b.size) (ascend (b.base + b.size) bs)

-- n banks, with none of "no bank, .. more than 16, a bank that breaks the reader's rule, banks not ascending or overlapping" (BN4.2 to
-- BN4.4)
unfoldable pub banks_ok : ℕ → List Bank → Bool
banks_ok n bs = both (nat_lt 0 n) (both (nat_le n 16) (ascend 0 bs))

-- whether the set-up would accept a record's banks (BN5)
unfoldable pub record_ok : Granules → Bool
record_ok g = banks_ok (bank_count g) (banks_of g)

-- the number of granules of all banks
unfoldable pub total : List Bank → ℕ
total [] = 0
total (b ∷ bs) = b.size / 4096 + total bs

-- "later, a record whose banks the set-up would refuse has no granules" (BN5)
unfoldable pub granule_count : Granules → ℕ
granule_count g = cond (record_ok g) (total (banks_of g)) 0

-- ---- the granule of an address
-- whether the address is in [base, base + size)
unfoldable pub holds : (base size addr : ℕ) → Bool
holds base size addr = both (nat_le base addr) (nat_lt addr (base + size))

-- the index in one bank, after the granules of the banks before: "the table is the banks' granules joined in bank order" (BN7)
abbrev pub index_in : (before base addr : ℕ) → ℕ
index_in before base addr = before + (addr - base) / 4096

-- the granule in one bank
unfoldable pub place_in : (before base size addr : ℕ) → Option ℕ
place_in before base size addr = cond (holds base size addr) (Some (index_in before base addr)) None

-- the granule in the first bank that holds the address: "An address in a hole is not a granule address." (BN6)
unfoldable pub place_among : (before : ℕ) → List Bank → (addr : ℕ) → Option ℕ
place_among before [] addr = None
place_among before (b ∷ bs) addr = option_or (place_in before b.base b.size addr) (place_among (before + b.size / 4096) bs addr)

-- the granule in the banks of a record (BN5 to BN7)
unfoldable pub bank_place : Granules → ℕ → Option ℕ
bank_place g addr = cond (record_ok g) (place_among 0 (banks_of g) addr) None

-- the granule in a table of n granules. "BAD_ADDR unless .. the address are multiples of 4,096 and the address falls on a granule of
-- the table." (CM2.3, CM3.3) Request E2: "a table of another length makes every address BAD_ADDR" (BN6)
unfoldable pub granule_at : Granules → (n addr : ℕ) → Option ℕ
granule_at g n addr = cond (both (addr % 4096 == 0) (granule_count g == n)) (bank_place g addr) None

-- ---- for the theorems
-- the address of granule i in a list of banks
unfoldable pub address_in : List Bank → ℕ → ℕ
address_in [] i = 0
address_in (b ∷ bs) i = cond (nat_lt i (b.size / 4096)) (b.base + 4096 * i) (address_in bs (i - b.size / 4096))

-- the address of granule i in a record
abbrev pub address_of : Granules → ℕ → ℕ
address_of g i = address_in (banks_of g) i

-- The granule of an address in one range of memory, in a table of n granules that starts at address G: "BAD_ADDR unless G and the address
-- are multiples of 4,096 and the address falls on a granule of the table." (BN8)
abbrev pub single_range : (start n addr : ℕ) → Option ℕ
single_range start n addr =
    cond (both (start % 4096 == 0) (both (addr % 4096 == 0) (both (nat_le start addr) (nat_lt ((addr - start) / 4096) n))))
    (Some ((addr - start) / 4096)) None

-- ---- the set-up
-- bank i of the banks that the reader shows, from the bytes of the array lookup: 16 bytes a bank, base and size (BN3)
abbrev pub bank_in : List ℕ → ℕ → Bank
bank_in shown i = record { base = word_at (16 * i) shown; size = word_at (16 * i + 8) shown }

-- the first n banks shown
abbrev pub banks_in : ℕ → List ℕ → List Bank
banks_in n shown = banks_by (bank_in shown) 0 n

-- the number of banks shown
abbrev pub shown_count : List ℕ → ℕ
shown_count shown = length shown / 16

-- none of "no bank, a part of a bank, more than 16, a bank that breaks the reader's rule, banks not ascending or overlapping, or a
-- table length that differs from the sum" (BN4)
unfoldable pub takes : List ℕ → ℕ → Bool
takes shown n =
    both (length shown % 16 == 0)
    (both (banks_ok (shown_count shown) (banks_in (shown_count shown) shown)) (total (banks_in (shown_count shown) shown) == n))

-- the code of the set-up (BN4)
unfoldable pub set_up_code : List ℕ → ℕ → Code
set_up_code shown n = fails (is_false (takes shown n)) Inval Ok

-- the record of n banks: the count, base and size of each, and zeros after them
abbrev pub record_from : ℕ → List ℕ → Granules
record_from n shown = n ∷ words_of (2 * n) shown ++ replicate (32 - 2 * n) 0

-- the code, and the record's words at exit: "INVAL, with no record made" (BN4) leaves them unchanged
pub record SetUp : Type 0 where
  pub code : Code
  pub granules : Granules

-- the set-up
unfoldable pub set_up_of : List ℕ → ℕ → Granules → SetUp
set_up_of shown n g = record { code = set_up_code shown n; granules = if_ok (set_up_code shown n) (record_from (shown_count shown) shown) g }
