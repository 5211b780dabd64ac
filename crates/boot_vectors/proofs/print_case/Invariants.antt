use Rattle.std.proofs.Common.{◌+◌, ◌*◌, ◌≤◌}
use Rattle.boot_vectors.proofs.print_case.Given as goal

abbrev pub invariant-loop-i : goal.invariant-loop-i
invariant-loop-i l = (l.steps ≤ 20) × (l.i ≤ l.steps) × (l.at ≤ 48 + 4264 * l.i)
