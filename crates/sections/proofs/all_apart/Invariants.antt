use Rattle.sections.specs.Steps.{clear_to, apart_to}
use mathlib.Core.Bool.{true}
use Prim.Native.Nat.{◌-◌, ◌≤◌}
use mathlib.Core.Path.{◌≡◌}
use Rattle.sections.proofs.all_apart.Given as goal

abbrev pub invariant-loop-j : goal.invariant-loop-j
invariant-loop-j l = (l.j ≤ l.i) × (l.ok ≡ true) × (clear_to l.i l.j l.page ≡ true)

abbrev pub decreases-loop-j : goal.decreases-loop-j
decreases-loop-j l = l.i - l.j

abbrev pub invariant-pairs : goal.invariant-pairs
invariant-pairs l = (l.i ≤ l.n) × (l.ok ≡ true) × (apart_to l.i l.page ≡ true)

abbrev pub decreases-pairs : goal.decreases-pairs
decreases-pairs l = l.n - l.i
