use Rattle.std.proofs.Common.{◌≡◌, ◌-◌, ◌*◌, ◌≤◌, Ok}
use Rattle.entries.specs.Entry.{words_per_entry}
use Rattle.entries.specs.Array.{entry_place}
use Rattle.faults.specs.Faults.{first_of, entry_of}
use Rattle.faults.proofs.entries_fault.Given as goal

abbrev pub invariant-loop-i : goal.invariant-loop-i
invariant-loop-i l =
    (l.i ≤ l.count) × (l.from ≡ entry_place l.k l.at l.i) × (l.step ≡ 8 * words_per_entry l.k) × (first_of l.i (entry_of l.minor l.k l.at l.page) ≡ Ok tt)

abbrev pub decreases-loop-i : goal.decreases-loop-i
decreases-loop-i l = l.count - l.i
