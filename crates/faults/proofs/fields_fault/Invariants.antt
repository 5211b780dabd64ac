use Rattle.std.proofs.Common.{◌≡◌, ◌-◌, ◌≤◌, length}
use Rattle.faults.specs.Faults.{walk_fault, fields_fault}
use Rattle.faults.proofs.fields_fault.Given as goal

abbrev pub invariant-loop-i : goal.invariant-loop-i
invariant-loop-i l =
    (l.i ≤ length l.part) × (l.at ≤ length l.part) × (walk_fault (length l.part - l.i) l.seen l.from l.i l.at l.part ≡ fields_fault l.from l.part)

abbrev pub decreases-loop-i : goal.decreases-loop-i
decreases-loop-i l = length l.part - l.i
