use Rattle.sections.proofs.Sections.{told_below, told-across, told-above}
use borrow.Author.Tests.{le-leb, lt-leb}
use mathlib.Core.Path.{◌∙◌}
use native.Mathlib.Omega.{arith}
use Rattle.sections.proofs.is_clear.Goals as goal

pub returns-then-to-pointer : goal.returns-then-to-pointer
returns-then-to-pointer c =
    let a = c.args in
    let p = c.pointer_at-pointer in
    le-leb a.to p.result c.if-to-pointer.true ∙ told_below a.from a.to a.k a.page.now _ p.ensures c.if-to-pointer.true

pub returns-then-pointer-from : goal.returns-then-pointer-from
returns-then-pointer-from c =
    let a = c.args in
    told-above a.from a.to a.k a.page.now _ c.pointer_at-pointer.ensures (omega arith)
    (omega arith) _ c.count_at.ensures _ c.fits.ensures

pub returns-else-pointer-from : goal.returns-else-pointer-from
returns-else-pointer-from c =
    let a = c.args in
    let p = c.pointer_at-pointer in
    lt-leb p.result a.from (omega arith) ∙ told-across a.from a.to a.k a.page.now _ p.ensures (omega arith) (omega arith)
