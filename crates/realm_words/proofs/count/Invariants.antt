use Prim.Native.Nat.{◌*◌, ◌≤◌}
use mathlib.Core.Path.{◌≡◌}
use lib.ListN.{length}
use Rattle.realm_words.specs.Bits.{words_for, bit_at}
use Rattle.realm_words.specs.Answers.{marked}
use Rattle.realm_words.proofs.count.Given as goal

abbrev pub invariant-loop-word : goal.invariant-loop-word
invariant-loop-word l =
    (length l.words ≡ words_for l.granules) × (l.word-index ≤ l.whole) × (l.sum ≤ 64 * l.word-index) × (l.sum ≡ marked (bit_at l.words) (64 * l.word-index))
