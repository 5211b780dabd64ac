use Rattle.text_lines.specs.Steps.{refusal_line}
use Rattle.text_lines.proofs.Lay.{wrote_none}
use Rattle.text.proofs.put_refused.Goals as goal

pub returns-in-Ok : goal.returns-in-Ok
unfolding refusal_line
returns-in-Ok c = rw c.in-Ok.is (wrote_none _)

pub returns-in-Err : goal.returns-in-Err
unfolding refusal_line
returns-in-Err c = rw c.in-Err.is c.put_code.ensures
