use Rattle.std.proofs.Common.{◌≡◌, ◌+◌, ◌-◌, ◌*◌, ◌≤◌}
use Rattle.entries.specs.Steps.{entries_at}
use Rattle.entries.specs.Fast.{console_clear}
use Rattle.entries.proofs.consoles_ok.Given as goal

abbrev pub invariant-loop-i : goal.invariant-loop-i
invariant-loop-i l =
    (l.i ≤ l.count) × (l.from ≡ l.at + 48 * l.i) × (console_clear l.minor l.bits ≡ entries_at l.minor 1 l.at l.i l.page)

abbrev pub decreases-loop-i : goal.decreases-loop-i
decreases-loop-i l = l.count - l.i
