use Rattle.token.proofs.Told.{told_part}
use Rattle.token.proofs.challenge.Goals as goal

pub returns : goal.returns
returns c =
    let a = c.args in
    let told = told_part a.state a.page.now a.pa a.size a.csize _ (c.challenge_place.ensures.value, c.challenge_place.ensures.page_value) a.page.ref_ptr _ _
    (c.part_of.ensures.result_value, c.part_of.ensures.ref_ptr_value) in record { result_value = told.0; ref_ptr_value = told.1 }
