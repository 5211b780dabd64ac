use borrow.Author.Rules.{rules}
use borrow.Author.Tests.{eq-eqb, ne_eqb, le-leb, lt-leb}
use Rattle.words.specs.Tests.{both}
use Rattle.fields.specs.Fields.{length_ok}
use Rattle.fields.proofs.length_ok.Goals as goal

pub returns-in-0 : goal.returns-in-0
unfolding length_ok both
returns-in-0 c = let a = c.args in simp (eq-eqb a.tag 0 (search rules))

pub returns-then-len-ge-NAME_LEAST : goal.returns-then-len-ge-NAME_LEAST
unfolding length_ok both
returns-then-len-ge-NAME_LEAST c =
    let a = c.args in
    simp (ne_eqb a.tag 0 (search rules), eq-eqb a.tag 1 (search rules), le-leb 1 a.len (search rules))

pub returns-else-len-ge-NAME_LEAST : goal.returns-else-len-ge-NAME_LEAST
unfolding length_ok both
returns-else-len-ge-NAME_LEAST c =
    let a = c.args in
    simp (ne_eqb a.tag 0 (search rules), eq-eqb a.tag 1 (search rules), lt-leb 1 a.len (search rules))

pub returns-in-2 : goal.returns-in-2
unfolding length_ok both
returns-in-2 c =
    let a = c.args in
    simp (ne_eqb a.tag 0 (search rules), ne_eqb a.tag 1 (search rules), eq-eqb a.tag 2 (search rules))

pub returns-in-3 : goal.returns-in-3
unfolding length_ok both
returns-in-3 c =
    let a = c.args in
    simp (
      ne_eqb a.tag 0 (search rules),
      ne_eqb a.tag 1 (search rules),
      ne_eqb a.tag 2 (search rules),
      eq-eqb a.tag 3 (search rules),
    )

pub returns-in_default : goal.returns-in_default
unfolding length_ok both
returns-in_default c =
    let a = c.args in
    simp (
      ne_eqb a.tag 0 (search rules),
      ne_eqb a.tag 1 (search rules),
      ne_eqb a.tag 2 (search rules),
      ne_eqb a.tag 3 (search rules),
    )
