use mathlib.Core.Path.{◌∙◌}
use Rattle.big_words.proofs.Numbers.{big-in}
use borrow.Author.Rules.{rules}
use Rattle.state_messages.proofs.put_number.Goals as goal

pub returns : goal.returns
returns c =
    let a = c.args in
    c.put_big.ensures ∙ big-in 4 a.at a.w a.s.now (search rules)
