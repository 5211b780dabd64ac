-- writing the fields from `cursor` on completes the text of all fields
use Rattle.std.proofs.Common.{◌≡◌, refl, sym, ap, ◌∙◌, arith, rules, Option, Some, None, is_none, true}
use Rattle.fields.specs.Steps.{step_at}
use Rattle.fields.specs.declared.FieldPlace.{FieldPlace}
use Rattle.fields.specs.declared.FieldStep.{FieldStep}
use Rattle.field_lookup.proofs.Fields.{step-none, step_less}
use Rattle.text_lines.specs.Text.{fields_text}
use Rattle.text_lines.proofs.Lay.{wrote_none, wrote_then, wrote-same}
use Rattle.text_lines.proofs.Parts.{step-passes, fields-step}
use Rattle.text.proofs.put_fields.Goals as goal

pub loop-field-init : goal.loop-field-init
loop-field-init c = (refl, λ u p. p)

pub loop-field-smaller : goal.loop-field-smaller
loop-field-smaller c =
    let a = c.args in
    let l = c.loop-field in
    let s = c.field_next in
    let f : s.result.field ≡ Some c.in-Some.field = search rules in
    rw s.ensures.value (step_less l.cursor a.page.now (step-passes l.cursor a.page.now s.result _ s.ensures.value f))

pub loop-field-preserved : goal.loop-field-preserved
loop-field-preserved c =
    let a = c.args in
    let l = c.loop-field in
    let s = c.field_next in
    let f : s.result.field ≡ Some c.in-Some.field = search rules in
    let q = fields-step l.cursor a.page.now s.result _ s.ensures.value f _ c.value_of-value.ensures.result_value in (
      c.put_field.ensures.same ∙ l.invariant.0,
      λ u p. l.invariant.1 u (wrote-same q (wrote_then (omega (arith, l.invariant.0)) c.put_field.ensures p)),
    )

pub returns : goal.returns
unfolding fields_text
returns c =
    let a = c.args in
    let l = c.loop-field in
    let s = c.field_next in
    let f : s.result.field ≡ None = search rules in
    let e : is_none (step_at l.cursor a.page.now).field ≡ true =
    ap (λ (x : FieldStep). is_none x.field) (sym s.ensures.value) ∙ ap (λ (x : Option FieldPlace). is_none x) f in
    l.invariant.1 _ (wrote-same (sym (ap fields_text (step-none l.cursor a.page.now e))) (wrote_none l.out))
