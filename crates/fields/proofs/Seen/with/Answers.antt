use borrow.Author.Rules.{rules}
use borrow.Author.Tests.{eq-eqb, ne_eqb}
use Rattle.words.specs.Tests.{either}
use Rattle.fields.specs.Steps.{seen_with}
use Rattle.fields.proofs.Seen.with.Goals as goal

pub returns-in-1 : goal.returns-in-1
unfolding seen_with either
returns-in-1 c =
    let a = c.args in simp (eq-eqb a.tag 1 (search rules), ne_eqb a.tag 2 (search rules), ne_eqb a.tag 3 (search rules))

pub returns-in-2 : goal.returns-in-2
unfolding seen_with either
returns-in-2 c =
    let a = c.args in simp (ne_eqb a.tag 1 (search rules), eq-eqb a.tag 2 (search rules), ne_eqb a.tag 3 (search rules))

pub returns-in-3 : goal.returns-in-3
unfolding seen_with either
returns-in-3 c =
    let a = c.args in simp (ne_eqb a.tag 1 (search rules), ne_eqb a.tag 2 (search rules), eq-eqb a.tag 3 (search rules))

pub returns-in_default : goal.returns-in_default
unfolding seen_with either
returns-in_default c =
    let a = c.args in simp (ne_eqb a.tag 1 (search rules), ne_eqb a.tag 2 (search rules), ne_eqb a.tag 3 (search rules))
