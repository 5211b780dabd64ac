use Prim.Native.Nat.{◌≤◌}
use mathlib.Core.Path.{◌≡◌}
use lib.ListN.{length}
use Rattle.realm_words.specs.Bits.{realm_words}
use Rattle.realm_words.specs.Answers.{same_words}
use Rattle.realm_words.proofs.Agreeing.{Fits, rest}
use Rattle.realm_words.proofs.agrees.Given as goal

abbrev pub invariant-loop-i : goal.invariant-loop-i
invariant-loop-i l =
    Fits l.table l.words l.granules × (l.i ≤ length l.words) × (same_words l.words (realm_words l.table) ≡ rest l.words l.table l.i)
