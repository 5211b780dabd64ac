use Rattle.words.specs.Word.{joined}
use Rattle.text_lines.specs.Text.{value_byte}
use Rattle.text_lines.specs.Steps.{Written}
use Rattle.text_lines.proofs.Out.put_value.Given as goal

abbrev pub invariant-loop-byte : goal.invariant-loop-byte
invariant-loop-byte l = Written (joined l.byte-index (value_byte l.value)) l.initial.self l.self
