use Rattle.std.proofs.Common.{length, refl, sym, ap, ◌∙◌, eq-eqb, ne_eqb}
use Rattle.fields.specs.Steps.{step_at}
use Rattle.fields.specs.declared.FieldStep.{FieldStep}
use Rattle.field_lookup.specs.Fields.{field_as}
use Rattle.field_lookup.specs.Steps.{shown_from, search_ends, place_tagged, tag_place}
use Rattle.field_lookup.proofs.Fields.{tag-here, tag-later, tag-place, goes_on, step_less}
use Rattle.field_lookup.proofs.field_of_tag.Goals as goal

pub loop-field-init : goal.loop-field-init
loop-field-init c = refl

pub returns-in_err-field : goal.returns-in_err-field
unfolding tag_place search_ends
returns-in_err-field c =
    let a = c.args in
    let l = c.loop-field in
    let s = c.field_next-step in
    let n = ap (λ (x : FieldStep). search_ends a.tag x.field) (sym s.ensures.value) ∙ ap (search_ends a.tag) c.in_err-field.was in
    let r =
    c.from_residual.ensures
    ∙ sym c.in_err-field.was
    ∙ ap (λ (x : FieldStep). x.field) s.ensures.value
    ∙ tag-here a.tag l.cursor a.page.now n
    ∙ l.invariant
    ∙ ap (λ x. place_tagged a.tag (length (shown_from x a.page.now)) x a.page.now)
    c.fields_start-cursor.ensures.value
    in
    record { value = r; page_value = ap (λ f. field_as f a.page.now) r ∙ tag-place a.tag a.view a.page.now }

pub returns-then-tag_of-tag : goal.returns-then-tag_of-tag
unfolding tag_place search_ends
returns-then-tag_of-tag c =
    let a = c.args in
    let l = c.loop-field in
    let s = c.field_next-step in
    let n = ap (λ (x : FieldStep). search_ends a.tag x.field) (sym s.ensures.value) ∙ ap (search_ends a.tag) c.in_ok-field.was ∙
    eq-eqb _ _ (sym c.tag_of.ensures ∙ c.if-tag_of-tag.true) in
    let r =
    sym c.in_ok-field.was
    ∙ ap (λ (x : FieldStep). x.field) s.ensures.value
    ∙ tag-here a.tag l.cursor a.page.now n
    ∙ l.invariant
    ∙ ap (λ x. place_tagged a.tag (length (shown_from x a.page.now)) x a.page.now)
    c.fields_start-cursor.ensures.value
    in
    record { value = r; page_value = ap (λ f. field_as f a.page.now) r ∙ tag-place a.tag a.view a.page.now }

pub loop-field-smaller : goal.loop-field-smaller
unfolding search_ends
loop-field-smaller c =
    let a = c.args in
    let l = c.loop-field in
    let s = c.field_next-step in
    let n = ap (λ (x : FieldStep). search_ends a.tag x.field) (sym s.ensures.value) ∙ ap (search_ends a.tag) c.in_ok-field.was ∙
    ne_eqb _ _ (λ z. c.if-tag_of-tag.false (c.tag_of.ensures ∙ z)) in
    rw s.ensures.value (step_less l.cursor a.page.now (goes_on a.tag (step_at l.cursor a.page.now).field n))

pub loop-field-preserved : goal.loop-field-preserved
unfolding search_ends
loop-field-preserved c =
    let a = c.args in
    let l = c.loop-field in
    let s = c.field_next-step in
    let n = ap (λ (x : FieldStep). search_ends a.tag x.field) (sym s.ensures.value) ∙ ap (search_ends a.tag) c.in_ok-field.was ∙
    ne_eqb _ _ (λ z. c.if-tag_of-tag.false (c.tag_of.ensures ∙ z)) in
    ap (λ (x : FieldStep). place_tagged a.tag (length (shown_from x.next a.page.now)) x.next a.page.now) s.ensures.value ∙
    tag-later a.tag l.cursor a.page.now n ∙ l.invariant
