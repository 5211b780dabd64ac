use Rattle.std.proofs.Common.{Some, sym, ap, ◌∙◌}
use Rattle.fields.specs.declared.FieldPlace.{FieldPlace}
use Rattle.field_lookup.specs.Fields.{place_span}
use Rattle.field_lookup.proofs.span_of.Goals as goal

pub returns-in-Some-Raw : goal.returns-in-Some-Raw
unfolding place_span
returns-in-Some-Raw c =
    let f = c.in-Some-Raw in
    let e = rw f.is at f.field-0-is in sym (ap place_span (f.is ∙ ap (λ (p : FieldPlace). Some p) e))

pub returns-in-Some-Withdrawn : goal.returns-in-Some-Withdrawn
unfolding place_span
returns-in-Some-Withdrawn c =
    let f = c.in-Some-Withdrawn in
    let e = rw f.is at f.field-0-is in sym (ap place_span (f.is ∙ ap (λ (p : FieldPlace). Some p) e))

pub returns-in-None : goal.returns-in-None
unfolding place_span
returns-in-None c = sym (ap place_span c.in-None.is)
