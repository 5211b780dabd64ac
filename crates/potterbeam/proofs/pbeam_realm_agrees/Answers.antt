use Rattle.potterbeam.proofs.pbeam_realm_agrees.Goals as goal

pub returns : goal.returns
returns c = rw (← c.granule_count-n.ensures, ← c.agrees.ensures.value) c.agreement_x0.ensures
