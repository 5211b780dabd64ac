use Rattle.std.proofs.Common.{◌≡◌, ◌*◌, ◌%◌, ◌^◌, take}
use Rattle.entries.specs.Entry.{entries_ok, sum}
use Rattle.entries.specs.Fast.{bank_clear}
use Rattle.writer_checks.proofs.sum_banks.Given as goal

abbrev pub invariant-loop-bank : goal.invariant-loop-bank
invariant-loop-bank l =
    (l.sum ≡ sum (take (2 * l.bank-index) l.words) % 2 ^ 64) × (bank_clear l.bits ≡ entries_ok l.minor l.k l.bank-index l.words)
