use mathlib.Core.Path.{sym, ◌∙◌}
use Rattle.codes.proofs.Gates.{went, stood}
use Rattle.features.specs.Features.{features_of}
use Rattle.features.proofs.Feature.{features-by, features-ok}
use Rattle.features.proofs.features.Goals as goal

pub returns-in-Ok : goal.returns-in-Ok
returns-in-Ok c =
    let a = c.args in
    c.ok.ensures ∙ features-ok a.state a.index (went _ _ _ (sym c.in-Ok.ensures)).0

pub returns-in-Err : goal.returns-in-Err
unfolding features_of
returns-in-Err c =
    let p = stood _ _ _ (sym c.in-Err.ensures) in
    c.refused.ensures ∙ features-by _ _ p.0 p.1
