use mathlib.Core.Path.{◌≡◌}
use lib.ListN.{length}
use Rattle.field_lookup.specs.Steps.{shown_from}
use Rattle.text_lines.specs.Text.{fields_text}
use Rattle.text_lines.specs.Steps.{Written}
use Rattle.text_lines.specs.declared.Out.{Out}
use Rattle.text.proofs.put_fields.Given as goal

abbrev pub invariant-loop-field : goal.invariant-loop-field
invariant-loop-field l =
    (length l.out.bytes.now ≡ length l.initial.out.bytes.now)
    × ((u : Out) → Written (fields_text (shown_from l.cursor l.page)) l.out u → Written (fields_text (shown_from l.start l.page)) l.initial.out u)

abbrev pub decreases-loop-field : goal.decreases-loop-field
decreases-loop-field l = length (shown_from l.cursor l.page)
