use Prim.Native.Nat.{◌-◌, ◌≤◌}
use Rattle.text_lines.specs.Text.{section_text}
use Rattle.words.specs.Word.{joined}
use Rattle.text_lines.specs.Steps.{seen, Written}
use Rattle.text.proofs.put_sections.Given as goal

abbrev pub invariant-loop-k : goal.invariant-loop-k
invariant-loop-k l = (l.k ≤ 4) × Written (joined l.k (section_text (seen l.view l.page))) l.initial.out l.out

abbrev pub decreases-loop-k : goal.decreases-loop-k
decreases-loop-k l = 4 - l.k
