use Rattle.faults.specs.Faults.{mk_fault}
use Rattle.std.proofs.Common.{refl}
use Rattle.faults.proofs.found_at.Goals as goal

pub returns : goal.returns
unfolding mk_fault
returns c = refl
