use mathlib.Core.Path.{ap, ◌∙◌}
use Rattle.words.specs.Word.{spanned, span_start, on_from}
use Rattle.words.specs.declared.Span.{Span}
use Rattle.field_lookup.proofs.Fields.{value_there}
use Rattle.field_lookup.proofs.value_of.Goals as goal

pub returns : goal.returns
returns c =
    let a = c.args in
    let e = c.span_of.ensures in record { result_value = c.part_of.ensures.result_value ∙ ap (λ (p : Span). spanned p a.page.now) e ∙ value_there a.field a.page.now; ref_ptr_value = c.part_of.ensures.ref_ptr_value ∙ ap (λ (p : Span). on_from a.page.ref_ptr (span_start p a.page.now)) e }
