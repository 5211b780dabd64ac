use Rattle.text_lines.specs.Text.{head_text, manifest_text, read_as_text}
use Rattle.text_lines.proofs.Lay.{wrote_then}
use borrow.Author.Rules.{rules}
use Rattle.text.proofs.put_head.Goals as goal

pub returns : goal.returns
unfolding head_text manifest_text read_as_text
returns c =
    wrote_then (search rules) (wrote_then (search rules) (wrote_then (search rules)
    (wrote_then (search rules) c.put.ensures
    c.put_decimal.ensures) c.put-2.ensures)
    c.put_decimal-2.ensures) c.put_end.ensures
