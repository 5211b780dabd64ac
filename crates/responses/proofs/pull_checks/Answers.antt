use mathlib.Core.Path.{◌≡◌, refl, sym, ◌∙◌}
use lib.ListN.{length}
use Rattle.codes.specs.declared.Code.TheVariants.{Inval, Again}
use Rattle.codes.proofs.Gates.{stops, goes}
use Rattle.response_rules.proofs.Pulls.{pull-none, pull-long, pull-ok}
use Rattle.responses.proofs.pull_checks.Goals as goal

pub returns-then-waiting-eq0 : goal.returns-then-waiting-eq0
returns-then-waiting-eq0 c = λ q e f. stops _ _ Again (pull-none c.args.size q (e ∙ c.if-waiting-eq0.true)) refl

pub returns-then-size-len : goal.returns-then-size-len
returns-then-size-len c = λ q e f.
    let n : length q.responses ≡ 0 → ⊥ = λ z. c.if-waiting-eq0.false (sym e ∙ z) in
    stops _ _ Inval (pull-long c.args.size q n _ refl (rw (f n) c.if-size-len.true)) refl

pub returns : goal.returns
returns c = λ q e f.
    let n : length q.responses ≡ 0 → ⊥ = λ z. c.if-waiting-eq0.false (sym e ∙ z) in
    goes _ _ _ (pull-ok c.args.size q n _ refl (rw (f n) c.if-size-len.false)) refl
