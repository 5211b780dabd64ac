use Rattle.std.proofs.Common.{◌≡◌, length}
use Rattle.words.proofs.Store.{words_to}
use Rattle.words.proofs.put_words.Given as goal

abbrev pub invariant-loop-i : goal.invariant-loop-i
invariant-loop-i l = (length l.s ≡ length l.fn.s) × (l.s ≡ words_to l.at l.words l.i l.fn.s)
