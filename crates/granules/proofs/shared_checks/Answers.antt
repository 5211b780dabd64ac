use mathlib.Core.Path.{refl, sym, ◌∙◌}
use Rattle.std.proofs.lemmas.Result.{err_from_is_err_and}
use Rattle.codes.specs.Codes.{is_false, fails}
use Rattle.codes.specs.declared.Code.TheVariants.{Unk, Inval, BadAddr}
use Rattle.codes.proofs.Gates.{stops, goes, up-went, up_stood}
use Rattle.granule_rules.specs.Steps.{shared_code}
use Rattle.granules.proofs.shared_checks.Goals as goal

pub returns-then-not-words_fit : goal.returns-then-not-words_fit
unfolding shared_code is_false fails
returns-then-not-words_fit c =
    stops _ _ Inval (rw (← c.granule_count-count.ensures, sym c.words_fit.ensures ∙ c.if-not-words_fit.true)) refl

pub returns-in_err-params : goal.returns-in_err-params
unfolding shared_code is_false fails
returns-in_err-params c =
    let d = up_stood c.args.state _ (sym c.in_err-params.ensures) in
    let p = err_from_is_err_and c.from_residual.result c.from_residual.ensures.1 in
    rw (p.1, p.2, d.1) (stops _ _ Unk (rw (
      ← c.granule_count-count.ensures,
      sym c.words_fit.ensures ∙ c.if-not-words_fit.false,
      d.0,
    )) refl)

pub returns-then-not-table_fits : goal.returns-then-not-table_fits
unfolding shared_code is_false fails
returns-then-not-table_fits c =
    let u = up-went c.args.state _ (sym c.in_ok-params.ensures) in
    stops _ _ BadAddr (rw (
      ← c.granule_count-count.ensures,
      sym c.words_fit.ensures ∙ c.if-not-words_fit.false,
      u.0,
      sym c.table_fits.ensures ∙ c.if-not-table_fits.true,
    )) refl

pub returns : goal.returns
unfolding shared_code is_false fails
returns c =
    let u = up-went c.args.state _ (sym c.in_ok-params.ensures) in
    goes _ _ _ (rw (
      ← c.granule_count-count.ensures,
      sym c.words_fit.ensures ∙ c.if-not-words_fit.false,
      u.0,
      sym c.table_fits.ensures ∙ c.if-not-table_fits.false,
    )) u.1
