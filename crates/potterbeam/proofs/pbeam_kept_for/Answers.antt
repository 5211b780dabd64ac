use Rattle.potterbeam.proofs.pbeam_kept_for.Goals as goal

pub returns : goal.returns
returns c = c.kept_for.ensures
