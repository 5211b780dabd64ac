use Prim.Native.Nat.{◌≤◌}
use mathlib.Core.Path.{◌≡◌}
use mathlib.Core.List.{◌++◌}
use lib.ListN.{length, drop}
use Rattle.realm_words.specs.Bits.{packed_to}
use Rattle.realm_words.proofs.Agreeing.{Fits}
use Rattle.realm_words.proofs.build.Given as goal

abbrev pub invariant-loop-i : goal.invariant-loop-i
invariant-loop-i l =
    Fits l.table l.initial.words l.granules × (l.i ≤ length l.initial.words) × (length l.words ≡ length l.initial.words) × (l.words ≡ packed_to l.i l.table ++ drop l.i l.initial.words)
