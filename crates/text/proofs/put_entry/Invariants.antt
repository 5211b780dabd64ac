use Prim.Native.Nat.{◌-◌, ◌≤◌}
use Rattle.reader.specs.Reading.{shown_as}
use Rattle.text_lines.specs.Text.{part_text}
use Rattle.words.specs.Word.{joined}
use Rattle.text_lines.specs.Steps.{Written}
use Rattle.text.proofs.put_entry.Given as goal

abbrev pub invariant-loop-j : goal.invariant-loop-j
invariant-loop-j l = (l.j ≤ l.j-end) × Written (joined l.j (part_text l.k (shown_as l.minor l.k l.section l.page) l.i)) l.initial.out l.out

abbrev pub decreases-loop-j : goal.decreases-loop-j
decreases-loop-j l = l.j-end - l.j
