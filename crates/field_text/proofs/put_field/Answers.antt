use Rattle.std.proofs.Common.{Some, ap, ◌∙◌}
use Rattle.fields.specs.declared.FieldPlace.{FieldPlace}
use Rattle.text_lines.specs.Text.{newline, withdrawn_text, field_text}
use Rattle.text_lines.specs.Steps.{place_text}
use Rattle.field_text.proofs.put_field.Goals as goal

pub returns-in-Some-Raw : goal.returns-in-Some-Raw
unfolding place_text
returns-in-Some-Raw c =
    let f = c.in-Some-Raw in rw (f.is ∙ ap (λ (p : FieldPlace). Some p) (rw f.is at f.field-0-is)) c.put_raw.ensures

pub returns-in-Some-Withdrawn : goal.returns-in-Some-Withdrawn
unfolding place_text field_text withdrawn_text newline
returns-in-Some-Withdrawn c =
    let f = c.in-Some-Withdrawn in rw (f.is ∙ ap (λ (p : FieldPlace). Some p) (rw f.is at f.field-0-is)) c.put.ensures

pub returns-in-None : goal.returns-in-None
unfolding place_text
returns-in-None c = rw c.in-None.is c.put-in-None.ensures
