use Prim.Native.Nat.{◌-◌, ◌≤◌}
use mathlib.Core.Path.{◌≡◌}
use lib.ListN.{length}
use Rattle.runtime_vectors.proofs.print_operations.Given as goal

abbrev pub invariant-loop-i : goal.invariant-loop-i
invariant-loop-i l =
    (l.i ≤ l.count) × (l.count ≤ 250) × (length l.page ≡ length l.initial.page) × (length l.expected ≡ length l.initial.expected) × (length l.table ≡ length l.initial.table) ×
    (length l.wanted ≡ length l.initial.wanted) × (length l.words ≡ length l.initial.words)

abbrev pub decreases-loop-i : goal.decreases-loop-i
decreases-loop-i l =
    l.count - l.i
