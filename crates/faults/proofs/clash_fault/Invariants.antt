use Rattle.std.proofs.Common.{◌≡◌, ◌-◌, ◌≤◌, Ok}
use Rattle.faults.specs.Faults.{first_of, clash}
use Rattle.faults.proofs.clash_fault.Given as goal

abbrev pub invariant-loop-j : goal.invariant-loop-j
invariant-loop-j l = (l.j ≤ l.n) × (first_of l.j (clash l.rule l.section l.offset l.from l.to l.page) ≡ Ok tt)

abbrev pub decreases-loop-j : goal.decreases-loop-j
decreases-loop-j l = l.n - l.j
