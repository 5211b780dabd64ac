-- For speed. `with-bank` and `with-console` (proofs/Fast.antt) prove that bits combined with "or" stay clear exactly if each entry keeps
-- `bank_ok` or `console_ok` (Entry.antt); `shown-word` (proofs/Flags.antt) proves that a word is shown as 0 if `is_hidden` holds and
-- otherwise as in `shown_words` (Entry.antt). Assumes nothing.
use Rattle.std.specs.Prelude.{ℕ, ◌%◌, ◌^◌, Bool, ◌==◌, nat_lt}
use Rattle.words.specs.Tests.{both}
use Rattle.entries.specs.Entry.{flags_ok}
use Rattle.entries.specs.declared.Bits.{Bits}

-- the bits of no entry
abbrev pub no_bits : Bits
no_bits = record { low = 0; high = 0; flags = 0 }

-- every bank or region keeps its rule: low combines base and size, high combines size - 1 and the address of the last byte
unfoldable pub bank_clear : Bits → Bool
bank_clear b = both (b.low % 4096 == 0) (both (nat_lt b.low (2 ^ 53)) (nat_lt b.high (2 ^ 52)))

-- every console keeps its rule: low combines the bases, high combines map_pages - 1 and the number of the last page, flags combines the
-- flags
unfoldable pub console_clear : ℕ → Bits → Bool
console_clear w b = both (b.low % 4096 == 0) (both (nat_lt b.high (2 ^ 40)) (flags_ok w b.flags))

-- word j of an entry of section k is shown as 0 on a page of minor w
unfoldable pub is_hidden : ℕ → ℕ → ℕ → Bool
is_hidden w k j = both (k == 1) (both (j == 5) (nat_lt 4 w))
