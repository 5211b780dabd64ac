use Rattle.std.proofs.Common.{arith}
use Rattle.text_lines.specs.Text.{space}
use Rattle.text_lines.proofs.Lay.{wrote-same}
use Rattle.text_lines.proofs.Parts.{gap-none, gap_more}
use Rattle.text_lines.proofs.Out.put_gap.Goals as goal

pub returns-in-0 : goal.returns-in-0
returns-in-0 c = wrote-same (gap-none c.args.j c.in-0.is) c.put.ensures

pub returns-in_default : goal.returns-in_default
unfolding space
returns-in_default c = wrote-same (gap_more c.args.j (λ e. omega arith)) c.put-in_default.ensures
