use Rattle.text_lines.specs.Text.{none_text}
use Rattle.text_lines.proofs.Lay.{wrote-same}
use Rattle.text_lines.proofs.Parts.{pointer_none, pointer-some}
use borrow.Author.Rules.{rules}
use Rattle.text.proofs.put_pointer.Goals as goal

pub returns-in-0 : goal.returns-in-0
unfolding none_text
returns-in-0 c =
    let a = c.args in
    wrote-same (pointer_none a.plat (search rules)) c.put.ensures

pub returns-in_default : goal.returns-in_default
returns-in_default c =
    let a = c.args in
    wrote-same (pointer-some a.plat (search rules)) c.put_hex.ensures
