use Rattle.std.proofs.Common.{◌≡◌, ◌*◌, ◌≤◌}
use Rattle.banks.specs.Banks.{banks_of}
use Rattle.banks.proofs.Passing.{banks_from}
use Rattle.banks.specs.Fast.{bank_among}
use Rattle.banks.proofs.bank_of.Given as goal

abbrev pub invariant-loop-bank : goal.invariant-loop-bank
invariant-loop-bank l =
    (l.before ≤ 0x10_0000_0000_0000 * l.bank-index) × (bank_among 0 (banks_of l.granules) l.address ≡ bank_among l.before
    (banks_from l.granules l.bank-index) l.address)
