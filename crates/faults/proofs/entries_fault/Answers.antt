use Rattle.std.proofs.Common.{sym, ap, ◌∙◌, arith, rules}
use Rattle.faults.specs.Faults.{entry_fault, entry_of}
use Rattle.faults.proofs.Order.{told_on, first-none, told_more, told_at, told-all}
use Rattle.faults.proofs.Faults.{place-first, place-next, place-room}
use Rattle.faults.proofs.entries_fault.Goals as goal

pub loop-i-init : goal.loop-i-init
loop-i-init c =
    let a = c.args in (
      search rules,
      sym (place-first a.k a.at),
      rw c.entry_words-step.ensures.0,
      first-none (entry_of a.minor a.k a.at a.page.now),
    )

pub entry_fault-requires : goal.entry_fault-requires
entry_fault-requires c =
    let a = c.args in
    let l = c.loop-i in
    (place-room a.k a.at l.i a.count l.from _ 4096 l.invariant.1 l.invariant.2 (omega arith)
    c.requires).0

pub returns-in_err-entry_fault : goal.returns-in_err-entry_fault
unfolding entry_of
returns-in_err-entry_fault c = let a = c.args in
    let l = c.loop-i in
    told_on c.in_err-entry_fault.was c.from_residual.ensures.1 ∙ told_at (entry_of a.minor a.k a.at a.page.now) l.i _ l.invariant.3
    (c.entry_fault.ensures ∙ ap (λ x. entry_fault a.minor a.k l.i x a.page.now) l.invariant.1)
    a.count _ (omega arith) c.in_err-entry_fault.was

pub overflow_add-from : goal.overflow_add-from
overflow_add-from c =
    let a = c.args in
    let l = c.loop-i in
    omega (
      arith,
      (place-room a.k a.at l.i a.count l.from _ 4096 l.invariant.1 l.invariant.2 (omega arith)
          c.requires).1,
    )

pub loop-i-preserved : goal.loop-i-preserved
unfolding entry_of
loop-i-preserved c = let a = c.args in
    let l = c.loop-i in (
      search rules,
      place-next a.k a.at l.i l.from _ l.invariant.1 l.invariant.2,
      l.invariant.2,
      told_more (entry_of a.minor a.k a.at a.page.now) l.i _ l.invariant.3
          (c.entry_fault.ensures ∙ ap (λ x. entry_fault a.minor a.k l.i x a.page.now) l.invariant.1)
          c.in_ok-entry_fault.was,
    )

pub returns : goal.returns
returns c =
    let a = c.args in
    told-all (entry_of a.minor a.k a.at a.page.now) c.loop-i.i a.count c.loop-i.invariant.3 (omega arith)
