use Rattle.potterbeam.proofs.pbeam_forward.Goals as goal

pub returns : goal.returns
returns c = rw (← c.record_of.ensures) c.forward.ensures
