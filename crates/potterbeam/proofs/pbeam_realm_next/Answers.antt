use Rattle.potterbeam.proofs.pbeam_realm_next.Goals as goal

pub returns : goal.returns
returns c =
    rw (← c.granule_count-n.ensures, ← c.next-hit.ensures.value)
    record { value = c.hit_x0.ensures; found_after = c.hit_words.ensures }
