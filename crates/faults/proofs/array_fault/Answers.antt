use Rattle.std.proofs.Common.{◌∙◌}
use Rattle.faults.specs.Faults.{array_fault}
use Rattle.faults.proofs.Order.{told_on, or_at, or-next}
use Rattle.faults.proofs.array_fault.Goals as goal

pub returns-in_err-entries_fault : goal.returns-in_err-entries_fault
unfolding array_fault
returns-in_err-entries_fault c = told_on c.in_err-entries_fault.was c.from_residual.ensures.1 ∙ or_at _ _ _ c.entries_fault.ensures _ c.in_err-entries_fault.was

pub returns : goal.returns
unfolding array_fault
returns c = or-next _ _ _ c.entries_fault.ensures c.in_ok-entries_fault.was _ c.check_fault.ensures
