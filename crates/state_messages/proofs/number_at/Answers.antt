use mathlib.Core.Path.{◌∙◌}
use Rattle.big_words.proofs.Numbers.{whole_in}
use borrow.Author.Rules.{rules}
use Rattle.state_messages.proofs.number_at.Goals as goal

pub returns : goal.returns
returns c = let a = c.args in c.big_at.ensures ∙ whole_in a.at a.s.now (search rules)
