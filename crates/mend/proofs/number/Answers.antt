use mathlib.Core.Path.{◌≡◌, sym, ap, ◌∙◌}
use mir.Val.{to_z, of_z}
use mir.Syntax.{w32}
use Rattle.mend.specs.Report.{mended_number}
use borrow.Author.Rules.{rules}
use Rattle.mend.proofs.number.Goals as goal

pub returns-in-Ok : goal.returns-in-Ok
unfolding mended_number
returns-in-Ok c = sym (ap mended_number c.in-Ok.is)

pub returns-in-Err : goal.returns-in-Err
unfolding mended_number
returns-in-Err c =
    let q : to_z w32 (of_z w32 c.from.result) ≡ c.from.result = search rules in
    q ∙ c.from.ensures ∙ sym (ap mended_number c.in-Err.is)
