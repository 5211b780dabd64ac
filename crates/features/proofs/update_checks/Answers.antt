use mathlib.Core.Path.{refl, sym, ◌∙◌}
use Rattle.std.proofs.lemmas.Result.{err_from_is_err_and}
use Rattle.codes.specs.declared.Code.TheVariants.{Unk, Inval}
use Rattle.codes.proofs.Gates.{stops, goes, up-went, up_stood}
use Rattle.features.proofs.Feature.{update-down, update-large, update-wide, update-width, update-minor, update-pass}
use borrow.Author.Rules.{rules}
use Rattle.features.proofs.update_checks.Goals as goal

pub returns-in_err-params : goal.returns-in_err-params
returns-in_err-params c =
    let a = c.args in
    let d = up_stood a.state _ (sym c.in_err-params.ensures) in
    let p = err_from_is_err_and c.from_residual.result c.from_residual.ensures.1 in
    rw (p.1, p.2, d.1) (stops _ _ Unk (update-down a.state a.width a.mecid d.0) refl)

pub returns-then-mecid-gt-MECID_MOST : goal.returns-then-mecid-gt-MECID_MOST
returns-then-mecid-gt-MECID_MOST c =
    let a = c.args in
    let u = up-went a.state _ (sym c.in_ok-params.ensures) in
    stops _ _ Inval (update-large a.state a.width a.mecid u.0 (search rules)) refl

pub returns-then-is_above : goal.returns-then-is_above
returns-then-is_above c =
    let a = c.args in
    let u = up-went a.state _ (sym c.in_ok-params.ensures) in
    stops _ _ Inval (update-wide a.state a.width a.mecid u.0 (search rules)
    (rw (← c.smaller.ensures) (sym c.is_above.ensures ∙ c.if-is_above.true))) refl

pub returns-then-width-gt-WIDTH_MOST : goal.returns-then-width-gt-WIDTH_MOST
returns-then-width-gt-WIDTH_MOST c =
    let a = c.args in
    let u = up-went a.state _ (sym c.in_ok-params.ensures) in
    stops _ _ Unk (update-width a.state a.width a.mecid u.0 (search rules)
    (rw (← c.smaller.ensures) (sym c.is_above.ensures ∙ c.if-is_above.false)) (search rules)) refl

pub returns-then-params-lt-KEY_UPDATE_MINOR : goal.returns-then-params-lt-KEY_UPDATE_MINOR
returns-then-params-lt-KEY_UPDATE_MINOR c =
    let a = c.args in
    let u = up-went a.state _ (sym c.in_ok-params.ensures) in
    stops _ _ Unk (update-minor a.state a.width a.mecid u.0 (search rules)
    (rw (← c.smaller.ensures) (sym c.is_above.ensures ∙ c.if-is_above.false)) (search rules)
    (rw (← u.1) (search rules))) refl

pub returns : goal.returns
returns c =
    let a = c.args in
    let u = up-went a.state _ (sym c.in_ok-params.ensures) in
    goes _ _ _ (update-pass a.state a.width a.mecid u.0 (search rules)
    (rw (← c.smaller.ensures) (sym c.is_above.ensures ∙ c.if-is_above.false)) (search rules)
    (rw (← u.1) (search rules))) refl
