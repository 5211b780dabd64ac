use mathlib.Core.Path.{◌≡◌, ◌∙◌}
use Rattle.sections.specs.Page.{count_at}
use Rattle.reader.proofs.Whole.{section-absent, section-empty, section-entries}
use native.Mathlib.Omega.{arith}
use Rattle.reader.proofs.section_at.Goals as goal

pub returns-then-sections-k : goal.returns-then-sections-k
returns-then-sections-k c =
    let a = c.args in
    section-absent a.e.minor a.base a.k a.core.now (omega arith)

pub returns-then-count-eq0 : goal.returns-then-count-eq0
returns-then-count-eq0 c =
    let a = c.args in
    section-empty a.e.minor a.base a.k a.core.now (omega arith) (omega arith)

pub returns : goal.returns
returns c =
    let a = c.args in
    let z : (count_at a.k a.core.now ≡ 0 → ⊥) = (λ e. c.if-count-eq0.false (c.count_at-count.ensures ∙ e)) in
    rw (c.pointer_at-pointer.ensures, c.count_at-count.ensures) (section-entries a.e.minor a.base a.k a.core.now (omega arith) z)
