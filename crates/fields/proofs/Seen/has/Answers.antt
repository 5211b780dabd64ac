use mathlib.Core.Path.{sym}
use borrow.Author.Rules.{rules}
use borrow.Author.Tests.{eq-eqb, ne_eqb}
use Rattle.words.specs.Tests.{both, either}
use Rattle.fields.specs.Steps.{is_seen}
use Rattle.fields.proofs.Rules.{either-false}
use Rattle.fields.proofs.Seen.has.Goals as goal

pub returns-in-1 : goal.returns-in-1
unfolding is_seen both either
returns-in-1 c =
    let a = c.args in
    simp (eq-eqb a.tag 1 (search rules), ne_eqb a.tag 2 (search rules), ne_eqb a.tag 3 (search rules))
    (sym (either-false a.self.name))

pub returns-in-2 : goal.returns-in-2
unfolding is_seen both either
returns-in-2 c =
    let a = c.args in
    simp (ne_eqb a.tag 1 (search rules), eq-eqb a.tag 2 (search rules), ne_eqb a.tag 3 (search rules))
    (sym (either-false a.self.serial))

pub returns-in-3 : goal.returns-in-3
unfolding is_seen both either
returns-in-3 c =
    let a = c.args in
    simp (ne_eqb a.tag 1 (search rules), ne_eqb a.tag 2 (search rules), eq-eqb a.tag 3 (search rules))

pub returns-in_default : goal.returns-in_default
unfolding is_seen both either
returns-in_default c =
    let a = c.args in
    simp (ne_eqb a.tag 1 (search rules), ne_eqb a.tag 2 (search rules), ne_eqb a.tag 3 (search rules))
