use Rattle.std.proofs.Common.{Some, None, sym, ap, ◌∙◌}
use Rattle.fields.specs.declared.Head.{Head}
use Rattle.fields.specs.declared.Head.TheVariants as head
use Rattle.fields.proofs.Scans.{never}
use Rattle.fields.proofs.Steps.{step-stop, step-there}
use Rattle.fields.proofs.step_at.Goals as goal

pub returns-in-Some-Field : goal.returns-in-Some-Field
returns-in-Some-Field c =
    let f = c.in-Some-Field in
    rw c.place_of.ensures (step-there c.args.at c.args.part.now (sym c.field_at.ensures ∙ f.is ∙ ap (λ (h : Head). Some h) f.field-0-is))

pub returns-in-Some-End : goal.returns-in-Some-End
returns-in-Some-End c =
    let a = c.args in
    step-stop a.at a.part.now (Some head.End) (sym c.field_at.ensures ∙ c.in-Some-End.is ∙ ap (λ (h : Head). Some h) c.in-Some-End.field-0-is)
    (λ t v m x z. never (cc))

pub returns-in-None : goal.returns-in-None
returns-in-None c =
    let a = c.args in
    step-stop a.at a.part.now None (sym c.field_at.ensures ∙ c.in-None.is) (λ t v m x z. never (cc))
