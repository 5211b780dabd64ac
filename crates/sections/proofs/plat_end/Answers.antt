use Rattle.sections.proofs.Sections.{plat-none, plat-low, plat-high, plat-in}
use mathlib.Core.Path.{sym, ◌∙◌}
use native.Mathlib.Omega.{arith}
use borrow.Author.Rules.{rules}
use Rattle.sections.proofs.plat_end.Goals as goal

pub returns-then-plat-eq0 : goal.returns-then-plat-eq0
returns-then-plat-eq0 c = let a = c.args in sym (plat-none a.e.minor a.base a.plat a.page.now (search rules))

pub returns-then-plat-base : goal.returns-then-plat-base
returns-then-plat-base c =
    let a = c.args in sym (plat-low a.e.minor a.base a.plat a.page.now (search rules) (omega arith))

pub returns-then-base-plat : goal.returns-then-base-plat
returns-then-base-plat c =
    let a = c.args in
    sym (plat-high a.e.minor a.base a.plat a.page.now (search rules) (omega arith) (omega arith))

pub returns : goal.returns
returns c =
    let a = c.args in
    c.scan_at.ensures ∙ sym (plat-in a.e.minor a.base a.plat a.page.now (search rules) (omega arith) (omega arith))
