use Rattle.std.proofs.Common.{sym, ◌∙◌, arith}
use Rattle.fields.proofs.Stops.{told-out}
use Rattle.fields.proofs.scan_at.Goals as goal

pub returns-in_err-get : goal.returns-in_err-get
returns-in_err-get c =
    let a = c.args in
    c.from_residual.ensures ∙ sym (told-out a.at a.page.now (omega (arith, c.in_err-get.ensures.lookup)))
