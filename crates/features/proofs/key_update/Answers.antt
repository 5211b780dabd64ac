use mathlib.Core.Path.{sym, ◌∙◌}
use Rattle.codes.proofs.Gates.{went, stood}
use Rattle.features.specs.Features.{update_of}
use Rattle.features.proofs.Feature.{update-by, update-ok}
use Rattle.features.proofs.key_update.Goals as goal

pub returns-in-Ok : goal.returns-in-Ok
returns-in-Ok c =
    let a = c.args in
    rw c.ok.ensures (update-ok a.state a.width a.mecid (went _ _ _ (sym c.in-Ok.ensures)).0)

pub returns-in-Err : goal.returns-in-Err
unfolding update_of
returns-in-Err c =
    let p = stood _ _ _ (sym c.in-Err.ensures) in
    rw c.refused.ensures (update-by _ _ c.args.mecid p.0 p.1)
