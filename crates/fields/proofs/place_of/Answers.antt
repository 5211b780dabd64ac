use borrow.Author.Rules.{rules}
use borrow.Author.Tests.{eq-eqb, ne_eqb}
use Rattle.fields.specs.Steps.{field_place_of}
use Rattle.fields.proofs.place_of.Goals as goal

pub returns-then-tag-eq-TAG_CONSOLE : goal.returns-then-tag-eq-TAG_CONSOLE
unfolding field_place_of
returns-then-tag-eq-TAG_CONSOLE c = let a = c.args in simp (eq-eqb a.tag 3 (search rules))

pub returns : goal.returns
unfolding field_place_of
returns c = let a = c.args in simp (ne_eqb a.tag 3 (search rules))
