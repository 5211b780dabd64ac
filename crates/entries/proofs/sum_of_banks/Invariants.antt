use Rattle.std.proofs.Common.{◌≡◌, ◌+◌, ◌-◌, ◌*◌, ◌%◌, ◌^◌, ◌≤◌}
use Rattle.words.specs.Word.{part, words_of}
use Rattle.entries.specs.Entry.{sum}
use Rattle.entries.specs.Steps.{entries_at}
use Rattle.entries.specs.Fast.{bank_clear}
use Rattle.entries.proofs.sum_of_banks.Given as goal

abbrev pub invariant-loop-i : goal.invariant-loop-i
invariant-loop-i l =
    (l.i ≤ l.count) × (l.from ≡ l.at + 16 * l.i) × (l.sum ≡ sum (words_of (2 * l.i) (part l.at (8 * (2 * l.count)) l.page)) % 2 ^ 64) ×
    (bank_clear l.bits ≡ entries_at l.minor l.k l.at l.i l.page)

abbrev pub decreases-loop-i : goal.decreases-loop-i
decreases-loop-i l = l.count - l.i
