use Rattle.text_lines.specs.Text.{name_byte}
use Rattle.words.specs.Word.{joined}
use Rattle.text_lines.specs.Steps.{Written}
use Rattle.text_lines.proofs.Out.put_name.Given as goal

abbrev pub invariant-loop-byte : goal.invariant-loop-byte
invariant-loop-byte l = Written (joined l.byte-index (name_byte l.w)) l.initial.self l.self
