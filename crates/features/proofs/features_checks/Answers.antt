use mathlib.Core.Path.{refl, sym}
use Rattle.std.proofs.lemmas.Result.{err_from_is_err_and}
use Rattle.codes.specs.declared.Code.TheVariants.{Unk, Inval}
use Rattle.codes.proofs.Gates.{stops, goes, up-went, up_stood}
use Rattle.features.proofs.Feature.{features-down, features-index, features-minor, features-pass}
use borrow.Author.Rules.{rules}
use Rattle.features.proofs.features_checks.Goals as goal

pub returns-in_err-params : goal.returns-in_err-params
returns-in_err-params c =
    let a = c.args in
    let d = up_stood a.state _ (sym c.in_err-params.ensures) in
    let p = err_from_is_err_and c.from_residual.result c.from_residual.ensures.1 in
    rw (p.1, p.2, d.1) (stops _ _ Unk (features-down a.state a.index d.0) refl)

pub returns-then-index-ne-FEATURES_INDEX : goal.returns-then-index-ne-FEATURES_INDEX
returns-then-index-ne-FEATURES_INDEX c =
    let a = c.args in
    let u = up-went a.state _ (sym c.in_ok-params.ensures) in
    stops _ _ Inval (features-index a.state a.index u.0 (search rules)) refl

pub returns-then-params-lt-SIGNING_MINOR : goal.returns-then-params-lt-SIGNING_MINOR
returns-then-params-lt-SIGNING_MINOR c =
    let a = c.args in
    let u = up-went a.state _ (sym c.in_ok-params.ensures) in
    stops _ _ Unk (features-minor a.state a.index u.0 (search rules) (rw (← u.1) (search rules))) refl

pub returns : goal.returns
returns c =
    let a = c.args in
    let u = up-went a.state _ (sym c.in_ok-params.ensures) in
    goes _ _ _ (features-pass a.state a.index u.0 (search rules) (rw (← u.1) (search rules))) refl
