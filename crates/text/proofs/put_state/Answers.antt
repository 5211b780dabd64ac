use Rattle.text_lines.specs.Text.{absent_text, newline}
use Rattle.text_lines.proofs.Lay.{wrote-same}
use Rattle.text_lines.proofs.Parts.{state-absent, count-other}
use Rattle.text.proofs.put_state.Goals as goal

pub returns-in-Absent : goal.returns-in-Absent
unfolding absent_text newline
returns-in-Absent c =
    let a = c.args in
    wrote-same (state-absent a.minor a.k a.section a.page.now
    c.in-Absent.is) c.put.ensures

pub returns-in_default : goal.returns-in_default
returns-in_default c =
    let a = c.args in
    wrote-same (count-other a.minor a.k a.section a.page.now c.in_default.not-Absent)
    c.put_count.ensures
