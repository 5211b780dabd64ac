use Rattle.std.proofs.Common.{◌∙◌, arith, rules}
use Rattle.faults.specs.Faults.{section_fault}
use Rattle.faults.proofs.Order.{told_on, first-none, told_more, told_at, told-all}
use Rattle.faults.proofs.sections_fault.Goals as goal

pub loop-k-init : goal.loop-k-init
loop-k-init c = let a = c.args in (search rules, first-none (section_fault a.minor a.e.minor a.base a.page.now))

pub returns-in_err-section_fault : goal.returns-in_err-section_fault
returns-in_err-section_fault c =
    let a = c.args in
    let l = c.loop-k in
    told_on c.in_err-section_fault.was c.from_residual.ensures.1 ∙ told_at (section_fault a.minor a.e.minor a.base a.page.now) l.k _ l.invariant.1
    c.section_fault.ensures a.n _ (omega arith) c.in_err-section_fault.was

pub loop-k-preserved : goal.loop-k-preserved
loop-k-preserved c =
    let a = c.args in
    let l = c.loop-k in (
      search rules,
      told_more (section_fault a.minor a.e.minor a.base a.page.now) l.k _ l.invariant.1
          c.section_fault.ensures c.in_ok-section_fault.was,
    )

pub returns : goal.returns
returns c =
    let a = c.args in
    told-all (section_fault a.minor a.e.minor a.base a.page.now) c.loop-k.k a.n c.loop-k.invariant.1
    (omega arith)
