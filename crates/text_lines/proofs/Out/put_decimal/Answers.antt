use Rattle.text_lines.proofs.Lay.{wrote-same}
use Rattle.text_lines.proofs.Numbers.{decimal-put}
use Rattle.text_lines.proofs.Out.put_decimal.Goals as goal

pub returns : goal.returns
returns c = wrote-same (decimal-put _ _ _ c.decimal-k.ensures.len c.decimal-k.ensures.digits) c.put.ensures
