use Rattle.banks.proofs.Passing.{Stage}
use Rattle.banks.proofs.granule_count.Given as goal

abbrev pub invariant-loop-bank : goal.invariant-loop-bank
invariant-loop-bank l = Stage l.granules l.bank-index l.low l.sum
