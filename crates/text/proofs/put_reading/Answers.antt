use Rattle.text_lines.specs.Steps.{refusal_line}
use Rattle.reader.specs.Reading.{reading_answer}
use Rattle.text.proofs.put_reading.Goals as goal

pub returns-in_default : goal.returns-in_default
unfolding reading_answer refusal_line
returns-in_default c = rw c.in_default.is (rw c.in_default.is at c.put_refused.ensures)

pub returns : goal.returns
returns c = rw c.in-Ok.is c.put_view.ensures
