use Rattle.std.proofs.Common.{◌≡◌, ◌+◌, ◌-◌, ◌*◌, ◌≤◌, length}
use Rattle.words.specs.Word.{bytes_of, joined, splice}
use Rattle.pack.specs.Steps.{array_words_in}
use Rattle.pack.proofs.put_arrays.Given as goal

abbrev pub invariant-loop-k : goal.invariant-loop-k
invariant-loop-k l =
    (l.k ≤ l.n) × (length l.target ≡ 4096) × (l.at ≡ l.from + 8 * length (joined l.k (array_words_in l.page))) ×
    (l.target ≡ splice l.from (bytes_of (joined l.k (array_words_in l.page))) l.initial.target)

abbrev pub decreases-loop-k : goal.decreases-loop-k
decreases-loop-k l = l.n - l.k
