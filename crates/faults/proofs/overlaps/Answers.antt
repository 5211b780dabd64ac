use Rattle.std.proofs.Common.{◌∙◌}
use Rattle.faults.proofs.Order.{told_on, or_at, or-next}
use Rattle.faults.proofs.overlaps.Goals as goal

pub returns-in_err-overlaps_fault : goal.returns-in_err-overlaps_fault
returns-in_err-overlaps_fault c = told_on c.in_err-overlaps_fault.was c.from_residual.ensures.1 ∙ or_at _ _ _ c.overlaps_fault.ensures _ c.in_err-overlaps_fault.was

pub returns : goal.returns
returns c =
    or-next _ _ _ c.overlaps_fault.ensures c.in_ok-overlaps_fault.was _ c.clash_fault.ensures
