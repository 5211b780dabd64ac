use Rattle.std.proofs.Common.{◌≡◌, ◌%◌, ◌∙◌, sym, true, false, eqb, arith}
use mathlib.Core.Bool.{false≢true}
use mathlib.Core.Logic.{⊎_elim}
use borrow.Author.Rules.{rules}
use borrow.Author.Tests.{eq-eqb, ne_eqb, lt-ltb, le-ltb}
use Rattle.words.specs.Tests.{both}
use Rattle.sections.specs.Page.{place_ok}
use Rattle.sections.proofs.place_ok.Goals.{then-n-eq-PAGE_LEN, else-n-eq-PAGE_LEN, then-base-ne0, else-base-ne0}
use Rattle.sections.proofs.place_ok.Goals as goal

pub returns-then-base-eq0 : goal.returns-then-base-eq0
unfolding place_ok both
returns-then-base-eq0 c =
    let a = c.args in
    elim c.if-base-ne0.branch [
      | then-base-ne0 w ↦
          let t = w.if-base-ne0.true in
          let m : eqb (a.base % 4096) 0 ≡ true = sym w.value-is ∙ c.if-base-eq0.true in
          simp (eq-eqb a.n 4096 t.0, lt-ltb 0 a.base (omega (arith, t.1)), m)
      | else-base-ne0 w ↦ absurd (false≢true (sym w.if-base-ne0.false-raw ∙ sym w.value-is ∙ c.if-base-eq0.true))
    ]

pub returns-else-base-eq0 : goal.returns-else-base-eq0
unfolding place_ok both
returns-else-base-eq0 c =
    let a = c.args in
    elim c.if-base-ne0.branch [
      | then-base-ne0 w ↦
          let t = w.if-base-ne0.true in
          let m : eqb (a.base % 4096) 0 ≡ false = sym w.value-is ∙ c.if-base-eq0.false in
          c.if-base-eq0.false ∙ simp (eq-eqb a.n 4096 t.0, lt-ltb 0 a.base (omega (arith, t.1)), m)
      | else-base-ne0 w ↦
          w.value-is ∙ w.if-base-ne0.false-raw ∙
          ⊎_elim (λ n. simp (eq-eqb a.n 4096 n.0, le-ltb 0 a.base (search rules))) (λ m. simp (ne_eqb a.n 4096 m)) w.if-base-ne0.either
    ]
