use mathlib.Core.Path.{◌∙◌}
use mathlib.Core.Logic.{⊎_elim}
use borrow.Author.Tests.{eq-eqb, ne_eqb}
use Rattle.words.specs.Tests.{both}
use Rattle.entries.specs.Fast.{is_hidden}
use Rattle.lookup.proofs.is_hidden.Goals.{then-k-eq1, else-k-eq1}
use Rattle.lookup.proofs.is_hidden.Goals as goal

pub returns-then-j-eq5 : goal.returns-then-j-eq5
unfolding is_hidden both
returns-then-j-eq5 c = let a = c.args in let t = c.if-j-eq5.true in simp (eq-eqb a.k 1 t.0, eq-eqb a.j 5 t.1)

pub returns-else-j-eq5 : goal.returns-else-j-eq5
unfolding is_hidden both
returns-else-j-eq5 c =
    let a = c.args in
    elim c.if-k-eq1.branch [
      | then-k-eq1 w ↦ ⊎_elim (λ n. w.t-5-is ∙ simp (eq-eqb a.k 1 w.if-k-eq1.true, ne_eqb a.j 5 n.1)) (λ m. absurd (m w.if-k-eq1.true)) c.if-j-eq5.either
      | else-k-eq1 w ↦ w.t-5-is ∙ simp (ne_eqb a.k 1 w.if-k-eq1.false)
    ]
