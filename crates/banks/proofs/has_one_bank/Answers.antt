use Rattle.std.proofs.Common.{sym, ◌∙◌, eq-eqb, ne_eqb}
use mathlib.Core.Bool.{false≢true}
use Rattle.words.specs.Tests.{both}
use Rattle.banks.specs.Fast.{has_one_bank}
use Rattle.banks.proofs.has_one_bank.Goals as goal
use Rattle.banks.proofs.has_one_bank.Goals.{then-granules-eq1, else-granules-eq1}

pub returns-then-granules-n : goal.returns-then-granules-n
unfolding has_one_bank both
returns-then-granules-n c =
    elim c.if-granules-eq1.branch [
      | then-granules-eq1 w ↦ rw (eq-eqb _ 1 w.if-granules-eq1.true, sym w.value-is ∙ c.if-granules-n.true) c.bank_ok.ensures
      | else-granules-eq1 w ↦ absurd (false≢true (sym (ne_eqb _ 1 w.if-granules-eq1.false) ∙ sym w.value-is ∙ c.if-granules-n.true))
    ]

pub returns-else-granules-n : goal.returns-else-granules-n
unfolding has_one_bank both
returns-else-granules-n c =
    elim c.if-granules-eq1.branch [
      | then-granules-eq1 w ↦ rw (eq-eqb _ 1 w.if-granules-eq1.true, sym w.value-is ∙ c.if-granules-n.false) c.if-granules-n.false
      | else-granules-eq1 w ↦ rw (ne_eqb _ 1 w.if-granules-eq1.false) c.if-granules-n.false
    ]
