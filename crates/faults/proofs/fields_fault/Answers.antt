use Rattle.std.proofs.Common.{◌≡◌, length, ◌∙◌, arith, rules}
use Rattle.faults.proofs.Order.{told_on}
use Rattle.faults.proofs.Faults.{walk_at, walk_end, walk_more, walk-room, walk_start, walk-out}
use Rattle.faults.proofs.fields_fault.Goals as goal

pub loop-i-init : goal.loop-i-init
loop-i-init c =
    let a = c.args in (search rules, search rules, walk_start _ a.from a.part.now c.none-seen.ensures)

pub returns-in_err-field_fault : goal.returns-in_err-field_fault
returns-in_err-field_fault c =
    let a = c.args in
    let l = c.loop-i in
    told_on c.in_err-field_fault.was c.from_residual.ensures.1 ∙ walk_at l.seen a.from l.i l.at a.part.now (search rules) _ _ c.byte_at-tag.ensures
    c.u16_at-len.ensures.0 _ c.field_fault.ensures _ c.in_err-field_fault.was ∙ l.invariant.2

pub returns-then-tag-eq0 : goal.returns-then-tag-eq0
returns-then-tag-eq0 c =
    let a = c.args in
    let l = c.loop-i in
    walk_end l.seen a.from l.i l.at a.part.now (search rules) _ _
    c.byte_at-tag.ensures c.u16_at-len.ensures.0 _
    c.field_fault.ensures c.in_ok-field_fault.was c.if-tag-eq0.true ∙ l.invariant.2

pub loop-i-preserved : goal.loop-i-preserved
loop-i-preserved c =
    let a = c.args in
    let l = c.loop-i in
    let r = walk-room l.seen a.from l.i l.at a.part.now (search rules) _ _
    c.byte_at-tag.ensures
    c.u16_at-len.ensures.0 _ c.field_fault.ensures
    c.in_ok-field_fault.was in (
      search rules,
      r,
      rw c.with-seen.ensures (walk_more l.seen a.from l.i l.at a.part.now (search rules) _ _
          c.byte_at-tag.ensures
          c.u16_at-len.ensures.0 _ c.field_fault.ensures
          c.in_ok-field_fault.was c.if-tag-eq0.false ∙ l.invariant.2),
    )

pub returns : goal.returns
returns c =
    let a = c.args in
    let l = c.loop-i in
    let z : l.i ≡ length a.part.now = omega arith in
    c.field_found.ensures ∙ walk-out l.seen a.from l.i l.at a.part.now _ _ c.byte_at.ensures
    c.u16_at.ensures.0 z ∙ l.invariant.2
