use Rattle.std.proofs.Common.{Some, sym, ap, ◌∙◌}
use Rattle.fields.specs.declared.FieldPlace.{FieldPlace}
use Rattle.images.specs.Image.{field_words}
use Rattle.images.proofs.field_words.Goals as goal

pub returns-in-Some-Raw : goal.returns-in-Some-Raw
unfolding field_words
returns-in-Some-Raw c =
    let f = c.in-Some-Raw in sym (ap field_words (f.is ∙ ap (λ (p : FieldPlace). Some p) (rw f.is at f.field-0-is)))

pub returns-in-Some-Withdrawn : goal.returns-in-Some-Withdrawn
unfolding field_words
returns-in-Some-Withdrawn c =
    let f = c.in-Some-Withdrawn in sym (ap field_words (f.is ∙ ap (λ (p : FieldPlace). Some p) (rw f.is at f.field-0-is)))

pub returns-in-None : goal.returns-in-None
unfolding field_words
returns-in-None c = sym (ap field_words c.in-None.is)
