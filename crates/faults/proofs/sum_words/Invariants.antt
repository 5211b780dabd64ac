use Rattle.std.proofs.Common.{◌≡◌, ◌+◌, ◌-◌, ◌*◌, ◌%◌, ◌^◌, ◌≤◌}
use Rattle.words.specs.Word.{part, words_of}
use Rattle.entries.specs.Entry.{sum}
use Rattle.faults.proofs.sum_words.Given as goal

abbrev pub invariant-loop-i : goal.invariant-loop-i
invariant-loop-i l = (l.i ≤ l.n) × (l.from ≡ l.at + 8 * l.i) × (l.sum ≡ sum (words_of l.i (part l.at (8 * l.n) l.page)) % 2 ^ 64)

abbrev pub decreases-loop-i : goal.decreases-loop-i
decreases-loop-i l = l.n - l.i
