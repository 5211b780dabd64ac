use Rattle.text_lines.specs.Text.{space, field_text}
use Rattle.text_lines.proofs.Lay.{wrote_then}
use borrow.Author.Rules.{rules}
use Rattle.field_text.proofs.put_raw.Goals as goal

pub returns : goal.returns
unfolding field_text space
returns c =
    wrote_then (search rules)
    (wrote_then (search rules)
    (wrote_then (search rules)
    (wrote_then (search rules) c.put_decimal.ensures
    c.put.ensures)
    c.put_decimal-2.ensures)
    c.put_value.ensures)
    c.put_end.ensures
