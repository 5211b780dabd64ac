use mathlib.Core.Path.{sym}
use borrow.Author.Tests.{ne_eqb}
use Rattle.words.specs.Tests.{either}
use Rattle.token_rules.specs.Token.{listed}
use Rattle.token_rules.proofs.Acts.{listed-size}
use borrow.Author.Rules.{rules}
use Rattle.token.proofs.is_listed.Goals as goal

pub returns-in-0 : goal.returns-in-0
returns-in-0 c = sym (listed-size c.args.csize c.in-0.is)

pub returns-in_default : goal.returns-in_default
unfolding listed either
returns-in_default c =
    let a = c.args in
    simp (
      ne_eqb a.csize 0 (search rules),
      ne_eqb a.csize 32 (search rules),
      ne_eqb a.csize 48 (search rules),
      ne_eqb a.csize 64 (search rules),
    )
