use Prim.Native.Nat.{◌-◌, ◌≤◌}
use Rattle.reader.specs.Reading.{shown_as}
use Rattle.text_lines.specs.Text.{entry_text}
use Rattle.words.specs.Word.{joined}
use Rattle.text_lines.specs.Steps.{Written}
use Rattle.text.proofs.put_entries.Given as goal

abbrev pub invariant-loop-i : goal.invariant-loop-i
invariant-loop-i l = (l.i ≤ l.n) × Written (joined l.i (entry_text l.k (shown_as l.minor l.k l.section l.page))) l.initial.out l.out

abbrev pub decreases-loop-i : goal.decreases-loop-i
decreases-loop-i l = l.n - l.i
