use mathlib.Core.Path.{ap, ◌∙◌}
use Rattle.fields.specs.declared.FieldStep.{FieldStep}
use Rattle.field_lookup.proofs.Fields.{step-shown}
use Rattle.images.specs.Image.{field_words}
use Rattle.potterbeam.proofs.pbeam_field_next.Goals as goal

pub returns : goal.returns
returns c =
    let a = c.args in record { value = ap (λ (s : FieldStep). s.next) c.field_next-step.ensures.value; field_after = c.field_words.ensures ∙ ap (λ (s : FieldStep). field_words s.field) c.field_next-step.ensures.value; page_value = ((step-shown a.cursor a.page.now).0, c.field_next-step.ensures.page_value_2) }
