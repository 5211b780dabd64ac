use mathlib.Core.Path.{◌∙◌}
use mathlib.Core.Logic.{⊎_elim}
use borrow.Author.Tests.{eq-eqb, ne_eqb}
use Rattle.words.specs.Tests.{both}
use Rattle.sections.specs.Section.{nothing}
use Rattle.sections.proofs.is_nothing.Goals.{then-count-eq0, else-count-eq0}
use Rattle.sections.proofs.is_nothing.Goals as goal

pub returns-then-pointer-eq0 : goal.returns-then-pointer-eq0
unfolding nothing both
returns-then-pointer-eq0 c =
    let a = c.args in let t = c.if-pointer-eq0.true in simp (eq-eqb a.count 0 t.0, eq-eqb a.pointer 0 t.1)

pub returns-else-pointer-eq0 : goal.returns-else-pointer-eq0
unfolding nothing both
returns-else-pointer-eq0 c =
    let a = c.args in
    elim c.if-count-eq0.branch [
      | then-count-eq0 w ↦ ⊎_elim (λ n. w.t-5-is ∙ simp (eq-eqb a.count 0 w.if-count-eq0.true, ne_eqb a.pointer 0 n.1)) (λ m. absurd (m w.if-count-eq0.true)) c.if-pointer-eq0.either
      | else-count-eq0 w ↦ w.t-5-is ∙ simp (ne_eqb a.count 0 w.if-count-eq0.false)
    ]
