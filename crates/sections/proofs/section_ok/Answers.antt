use Rattle.sections.proofs.Sections.{told-nothing, told-low, told-placed}
use native.Mathlib.Omega.{arith}
use Rattle.sections.proofs.section_ok.Goals as goal

pub returns-then-is_nothing : goal.returns-then-is_nothing
returns-then-is_nothing c =
    let a = c.args in
    let p = c.requires in
    told-nothing a.minor a.e.minor a.base a.k a.page.now _ _ _ p.4 p.5 p.6 _ c.is_nothing.ensures
    c.if-is_nothing.true

pub returns-then-pointer-base : goal.returns-then-pointer-base
returns-then-pointer-base c =
    let a = c.args in
    let p = c.requires in
    told-low a.minor a.e.minor a.base a.k a.page.now _ _ _ p.4 p.5 p.6 _
    c.is_nothing.ensures c.if-is_nothing.false (omega arith)

pub returns : goal.returns
returns c =
    let a = c.args in
    let p = c.requires in
    told-placed a.minor a.e.minor a.base a.k a.page.now _ _ _ p.4 p.5 p.6 _
    c.is_nothing.ensures c.if-is_nothing.false (omega arith) p.0 _ c.array_ok.ensures
