use Rattle.text_lines.proofs.Lay.{wrote-same}
use Rattle.text_lines.proofs.Parts.{word-other, word-plain, word-name}
use Rattle.text.proofs.put_word.Goals as goal
use Rattle.text.proofs.put_word.Goals.{in_default-via-in-1+in_default, in_default-via-in_default}

pub returns-in-1-eq2 : goal.returns-in-1-eq2
returns-in-1-eq2 c =
    let a = c.args in
    wrote-same (word-name a.k a.j a.w c.in-1-eq2.is-0 c.in-1-eq2.is-1) c.put_name.ensures

pub returns-in_default : goal.returns-in_default
returns-in_default c =
    let a = c.args in
    elim c.in_default.branch [
      | in_default-via-in-1+in_default w ↦ wrote-same (word-plain a.k a.j a.w w.in_default.is-0 w.in_default.is-1.1) c.put_hex.ensures
      | in_default-via-in_default w ↦ wrote-same (word-other a.k a.j a.w w.in_default.is-0.1) c.put_hex.ensures
    ]
