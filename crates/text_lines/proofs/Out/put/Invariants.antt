use mathlib.Core.Path.{◌≡◌}
use Rattle.words.proofs.Store.{bytes_to}
use Rattle.text_lines.proofs.Out.put.Given as goal

abbrev pub invariant-loop-i : goal.invariant-loop-i
invariant-loop-i l = l.to ≡ bytes_to l.byte-items l.i l.initial.to
