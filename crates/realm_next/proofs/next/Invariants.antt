use Prim.Native.Nat.{◌-◌, ◌<◌}
use mathlib.Core.Path.{◌≡◌}
use lib.ListN.{length}
use Rattle.realm_words.specs.Bits.{words_for}
use Rattle.realm_next.proofs.Looking.{Look}
use Rattle.realm_next.proofs.next.Given as goal

abbrev pub invariant-loop-bits : goal.invariant-loop-bits
invariant-loop-bits l =
    (length l.words ≡ words_for l.granules) × (l.index < l.granules) × Look l.words l.granules l.index l.at l.bits

abbrev pub decreases-loop-bits : goal.decreases-loop-bits
decreases-loop-bits l = length l.words - l.at
