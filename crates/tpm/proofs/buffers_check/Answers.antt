use mathlib.Core.Path.{refl}
use Rattle.tpm.specs.ReturnCodes.{is_success}
use Rattle.tpm.proofs.Checks.{input-stops, input-goes}
use borrow.Author.Rules.{rules}
use Rattle.tpm.proofs.buffers_check.Goals as goal

pub returns-in_err-buffer_check-clause-code : goal.returns-in_err-buffer_check-clause-code
unfolding is_success
returns-in_err-buffer_check-clause-code c =
    let a = c.args in
    let e = c.in_err-buffer_check.ensures in
    rw (← input-stops a.asked a.n _ e.code (e.err refl refl)) (search rules)

pub returns-clause-code : goal.returns-clause-code
unfolding is_success
returns-clause-code c =
    let a = c.args in
    input-goes a.asked a.n _ _ c.in_ok-buffer_check.ensures.code refl c.buffer_check-2.ensures.code
