use Rattle.potterbeam.proofs.pbeam_realm_count.Goals as goal

pub returns : goal.returns
returns c =
    rw (← c.granule_count-n.ensures, ← c.count-counted.ensures.value)
    record { value = c.number_x0.ensures; number_after = c.number_words.ensures }
