use mathlib.Core.Path.{ap, ◌∙◌}
use native.Mathlib.Omega.{arith}
use Rattle.boot.specs.Boot.{warm_code}
use Rattle.boot.specs.declared.Record.{Record}
use Rattle.boot.proofs.Booting.{not-up, kept-not, kept-up}
use Rattle.boot.proofs.Record.warm_checked.Goals as goal

pub returns-in_default : goal.returns-in_default
returns-in_default c = not-up c.args.self c.args.x0 c.in_default.not-Up

pub returns-then-params-x0 : goal.returns-then-params-x0
unfolding warm_code
returns-then-params-x0 c =
    let a = c.args in
    ap (λ (s : Record). warm_code s a.x0) c.in-Up.is ∙ kept-not c.in-Up.params.cpus a.x0 (omega arith)

pub returns : goal.returns
unfolding warm_code
returns c =
    let a = c.args in
    (ap (λ (s : Record). warm_code s a.x0) c.in-Up.is ∙ kept-up c.in-Up.params.cpus a.x0 (omega arith), c.in-Up.is)
