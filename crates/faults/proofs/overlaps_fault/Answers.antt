use Rattle.std.proofs.Common.{◌∙◌, arith, rules}
use Rattle.faults.specs.Faults.{overlap}
use Rattle.faults.proofs.Order.{told_on, first-none, told_more, told_at, told-all}
use Rattle.faults.proofs.overlaps_fault.Goals as goal

pub loop-i-init : goal.loop-i-init
loop-i-init c = let a = c.args in (search rules, first-none (overlap a.page.now))

pub overlap_fault-requires : goal.overlap_fault-requires
overlap_fault-requires c = c.requires.1 c.loop-i.i (omega arith)

pub returns-in_err-overlap_fault : goal.returns-in_err-overlap_fault
returns-in_err-overlap_fault c =
    let a = c.args in
    let l = c.loop-i in
    told_on c.in_err-overlap_fault.was c.from_residual.ensures.1 ∙ told_at (overlap a.page.now) l.i _ l.invariant.1 c.overlap_fault.ensures a.n _ (omega arith)
    c.in_err-overlap_fault.was

pub loop-i-preserved : goal.loop-i-preserved
loop-i-preserved c =
    let a = c.args in
    let l = c.loop-i in (
      search rules,
      told_more (overlap a.page.now) l.i _ l.invariant.1 c.overlap_fault.ensures
          c.in_ok-overlap_fault.was,
    )

pub returns : goal.returns
returns c =
    let a = c.args in
    told-all (overlap a.page.now) c.loop-i.i a.n c.loop-i.invariant.1 (omega arith)
