use Rattle.text_lines.specs.Text.{newline}
use Rattle.text_lines.proofs.Out.put_end.Goals as goal

pub returns : goal.returns
unfolding newline
returns c = c.put.ensures
