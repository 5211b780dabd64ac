use Rattle.std.proofs.Common.{sym, rules, eq-eqb, ne_eqb}
use Rattle.faults.specs.Faults.{entry_fault}
use Rattle.faults.proofs.entry_fault.Goals as goal

pub returns-then-k-eq1 : goal.returns-then-k-eq1
unfolding entry_fault
returns-then-k-eq1 c =
    let a = c.args in
    simp (
      eq-eqb a.k 1 (search rules),
      sym c.word_at-first.ensures,
      sym c.word_at-second.ensures,
      sym c.word_at.ensures,
    ) c.console_fault.ensures

pub returns : goal.returns
unfolding entry_fault
returns c =
    let a = c.args in
    simp (ne_eqb a.k 1 (search rules), sym c.word_at-first.ensures, sym c.word_at-second.ensures)
    c.bank_fault.ensures
