use Prim.Native.Nat.{◌≤◌}
use mathlib.Core.Path.{◌≡◌}
use lib.ListN.{length}
use Rattle.queue_image.proofs.Rows.{read_to}
use Rattle.queue_image.proofs.side_in.Given as goal

abbrev pub invariant-loop-i : goal.invariant-loop-i
invariant-loop-i g l =
    (l.i ≤ 8) × (length l.initial.item-items ≡ 8) × (l.item-items ≡ read_to g.T.Row.of_row g.T.Row.WORDS g.T.Row.FIRST l.image l.initial.item-items l.i)
