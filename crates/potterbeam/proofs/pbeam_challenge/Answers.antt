use Rattle.potterbeam.proofs.pbeam_challenge.Goals as goal

pub returns : goal.returns
returns c =
    rw (← c.record_of-record.ensures) record {
      value = rw (← c.challenge_code.ensures.value) c.x0.ensures;
      place_after = rw (← c.challenge_place.ensures.value)
          c.span_words.ensures;
    }
