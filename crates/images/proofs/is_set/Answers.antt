use borrow.Author.Tests.{eq-eqb, ne_eqb}
use Rattle.codes.specs.Codes.{is_false}
use Rattle.images.specs.Image.{is_set}
use borrow.Author.Rules.{rules}
use Rattle.images.proofs.is_set.Goals as goal

pub returns-then-flag-eq0 : goal.returns-then-flag-eq0
unfolding is_set is_false
returns-then-flag-eq0 c = simp (eq-eqb c.args.flag 0 (search rules))

pub returns : goal.returns
unfolding is_set is_false
returns c = simp (ne_eqb c.args.flag 0 (search rules))
