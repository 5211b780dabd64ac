use mathlib.Core.Path.{refl}
use Rattle.words.specs.Word.{no_span}
use Rattle.token.proofs.Told.{told_none, told-shown}
use Rattle.token.proofs.challenge_place.Goals as goal

pub returns-in_default : goal.returns-in_default
unfolding no_span
returns-in_default c =
    let a = c.args in
    let told = told_none a.state a.page.now a.pa a.size a.csize _ c.buffer_of.ensures _ c.in_default.is in record { value = told.0; page_value = told.1 }

pub returns : goal.returns
returns c =
    let a = c.args in
    let told = told-shown a.state a.page.now a.pa a.size a.csize _ c.in-Ok.ensures _
    refl _ c.span_at.ensures in record { value = told.0; page_value = told.1 }
