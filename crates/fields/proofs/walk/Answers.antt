-- The loop's invariant: from here on, with the marks and the number of fields so far, the pass stops where it would from the start.
use Rattle.std.proofs.Common.{Some, sym, ap, ◌∙◌, arith, rules}
use Rattle.fields.specs.declared.Head.{Head}
use Rattle.fields.proofs.Scans.{head-room}
use Rattle.fields.proofs.Stops.{stop-start, stop-edge, stop-broken, stop-mark, stop-not, stop-more}
use Rattle.fields.proofs.walk.Goals as goal

pub loop-at-init : goal.loop-at-init
loop-at-init c = (search rules, search rules, rw c.none-seen.ensures (stop-start c.args.part.now))

pub returns-in_err-field_at : goal.returns-in_err-field_at
returns-in_err-field_at c =
    let l = c.loop-at in
    c.from_residual.ensures ∙ sym (stop-broken l.at l.passed l.seen c.args.part.now (search rules)
    (sym c.field_at.ensures ∙ c.in_err-field_at.was)) ∙ l.invariant.2

pub returns-in-End : goal.returns-in-End
returns-in-End c =
    let l = c.loop-at in
    sym (stop-mark l.at l.passed l.seen c.args.part.now (search rules)
    (sym c.field_at.ensures ∙ c.in_ok-field_at.was ∙ ap (λ (h : Head). Some h) c.in-End.is)) ∙ l.invariant.2

pub returns-then-not-allows : goal.returns-then-not-allows
returns-then-not-allows c =
    let s = c.args.part.now in
    let l = c.loop-at in
    let e = sym c.field_at.ensures ∙ c.in_ok-field_at.was ∙ ap (λ (h : Head). Some h) c.in-Field.is in
    sym (stop-not l.at l.passed l.seen s (search rules) e (sym c.allows.ensures ∙ c.if-not-allows.true)) ∙
    l.invariant.2

pub loop-at-smaller : goal.loop-at-smaller
loop-at-smaller c =
    let l = c.loop-at in
    let e = sym c.field_at.ensures ∙ c.in_ok-field_at.was ∙ ap (λ (h : Head). Some h) c.in-Field.is in
    let r = head-room l.at c.args.part.now e in
    omega arith

pub loop-at-preserved : goal.loop-at-preserved
loop-at-preserved c =
    let s = c.args.part.now in
    let l = c.loop-at in
    let e = sym c.field_at.ensures ∙ c.in_ok-field_at.was ∙ ap (λ (h : Head). Some h) c.in-Field.is in
    let r = head-room l.at s e in
    let a = sym c.allows.ensures ∙ c.if-not-allows.false in
    (omega arith, omega arith, rw c.with-seen.ensures (sym (stop-more l.at l.passed l.seen s (search rules) e a) ∙ l.invariant.2))

pub returns : goal.returns
returns c =
    let l = c.loop-at in
    sym (stop-edge l.at l.passed l.seen c.args.part.now (search rules)) ∙ l.invariant.2
