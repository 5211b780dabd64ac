use Rattle.std.proofs.Common.{◌≡◌, ◌-◌, ◌≤◌, Ok}
use Rattle.faults.specs.Faults.{first_of, section_fault}
use Rattle.faults.proofs.sections_fault.Given as goal

abbrev pub invariant-loop-k : goal.invariant-loop-k
invariant-loop-k l = (l.k ≤ l.n) × (first_of l.k (section_fault l.minor l.e.minor l.base l.page) ≡ Ok tt)

abbrev pub decreases-loop-k : goal.decreases-loop-k
decreases-loop-k l = l.n - l.k
