use mathlib.Core.Path.{refl, sym}
use Rattle.std.proofs.lemmas.Result.{err_from_is_err_and}
use Rattle.codes.proofs.Gates.{up-went, up_stood}
use Rattle.signing.proofs.Signings.{gate-stop, gate-curve, gate-up, gate-minor, gate-go}
use borrow.Author.Rules.{rules}
use Rattle.signing.proofs.common_checks.Goals as goal

pub returns-in_err-at : goal.returns-in_err-at
returns-in_err-at c =
    let a = c.args in
    let p = err_from_is_err_and c.from_residual.result c.from_residual.ensures.1 in
    rw (p.1, p.2) (gate-stop a.state a.len a.opcode a.pa a.size a.curve _
    c.is_other.ensures _ c.code_if-first.ensures.value _
    c.in_err-at.ensures.value _ refl)

pub returns-then-refuses_curve : goal.returns-then-refuses_curve
returns-then-refuses_curve c =
    let a = c.args in
    gate-curve a.state a.len a.opcode a.pa a.size a.curve _
    c.is_other.ensures _
    c.code_if-first.ensures.value _
    c.in_ok-at.ensures.value
    _ refl _ c.refuses_curve.ensures c.if-refuses_curve.true

-- a buffer that passes is that of a record that is up
pub returns-in_err-params : goal.returns-in_err-params
returns-in_err-params c =
    let a = c.args in
    absurd (gate-up a.state a.len a.opcode a.pa a.size a.curve _
    c.is_other.ensures _ c.code_if-first.ensures.value _
    c.in_ok-at.ensures.value _ refl (up_stood a.state _ (sym c.in_err-params.ensures)).0)

pub returns-then-params-lt4 : goal.returns-then-params-lt4
returns-then-params-lt4 c =
    let a = c.args in
    gate-minor a.state a.len a.opcode a.pa a.size a.curve _
    c.is_other.ensures _
    c.code_if-first.ensures.value _
    c.in_ok-at.ensures.value _ refl _ c.refuses_curve.ensures
    c.if-refuses_curve.false _ (up-went a.state _ (sym c.in_ok-params.ensures)).1 (search rules)

pub returns : goal.returns
returns c =
    let a = c.args in
    gate-go a.state a.len a.opcode a.pa a.size a.curve _
    c.is_other.ensures _
    c.code_if-first.ensures.value _
    c.in_ok-at.ensures.value _ refl _ c.refuses_curve.ensures
    c.if-refuses_curve.false _ (up-went a.state _ (sym c.in_ok-params.ensures)).1 (search rules)
