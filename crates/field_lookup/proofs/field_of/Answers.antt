use Rattle.std.proofs.Common.{◌≡◌, ◌+◌, ◌-◌, is_none, sym, ap, ◌∙◌, arith}
use Rattle.fields.specs.declared.FieldStep.{FieldStep}
use Rattle.field_lookup.specs.Fields.{field_as}
use Rattle.field_lookup.specs.Steps.{place_nth, nth_place}
use Rattle.field_lookup.proofs.Fields.{nth-none, nth_here, nth-later, nth-place}
use Rattle.field_lookup.proofs.field_of.Goals as goal

pub loop-init : goal.loop-init
loop-init c =
    let a = c.args in
    let e : a.i - 0 ≡ a.i = omega arith in ap (λ k. place_nth k c.fields_start-cursor.result a.page.now) e

pub returns-in_err-step : goal.returns-in_err-step
unfolding nth_place
returns-in_err-step c =
    let a = c.args in
    let l = c.loop in
    let s = c.field_next-step in
    let n = ap (λ (x : FieldStep). is_none x.field) (sym s.ensures.value) ∙ ap is_none c.in_err-step.was in
    let r =
    c.from_residual.ensures
    ∙ sym c.in_err-step.was
    ∙ ap (λ (x : FieldStep). x.field) s.ensures.value
    ∙ nth-none (a.i - l.counter) l.cursor a.page.now n
    ∙ l.invariant
    ∙ ap (λ x. place_nth a.i x a.page.now) c.fields_start-cursor.ensures.value
    in
    record { value = r; page_value = ap (λ f. field_as f a.page.now) r ∙ nth-place a.i a.view a.page.now }

pub loop-preserved : goal.loop-preserved
loop-preserved c =
    let a = c.args in
    let l = c.loop in
    let e : a.i - (l.counter + 1) ≡ a.i - l.counter - 1 = omega arith in
    ap (λ (x : FieldStep). place_nth (a.i - (l.counter + 1)) x.next a.page.now) c.field_next-step.ensures.value ∙
    rw e (nth-later (a.i - l.counter) l.cursor a.page.now (λ z. omega arith) ∙ l.invariant)

pub returns : goal.returns
unfolding nth_place
returns c =
    let a = c.args in
    let l = c.loop in
    let r =
    ap (λ (x : FieldStep). x.field) c.field_next.ensures.value
    ∙ nth_here (a.i - l.counter) l.cursor a.page.now (omega arith)
    ∙ l.invariant
    ∙ ap (λ x. place_nth a.i x a.page.now) c.fields_start-cursor.ensures.value
    in
    record { value = r; page_value = ap (λ f. field_as f a.page.now) r ∙ nth-place a.i a.view a.page.now }
