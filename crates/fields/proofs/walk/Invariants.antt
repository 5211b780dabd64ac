use Prim.Native.Nat.{◌≤◌, ◌-◌}
use mathlib.Core.Path.{◌≡◌}
use lib.ListN.{length}
use Rattle.fields.specs.Fields.{scan_of}
use Rattle.fields.specs.Steps.{stop_of}
use Rattle.fields.proofs.Stops.{stop_at}
use Rattle.fields.proofs.walk.Given as goal

abbrev pub invariant-loop-at : goal.invariant-loop-at
invariant-loop-at l = (l.passed ≤ l.at) × (l.at ≤ length l.part) × (stop_at l.at l.passed l.seen l.part ≡ stop_of (scan_of l.part))

abbrev pub decreases-loop-at : goal.decreases-loop-at
decreases-loop-at l = length l.part - l.at
