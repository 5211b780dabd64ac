use Rattle.codes.specs.Codes.{fails}
use borrow.Author.Rules.{rules}
use Rattle.codes.proofs.code_if.Goals as goal

pub returns-then-test-clause-value : goal.returns-then-test-clause-value
unfolding fails
returns-then-test-clause-value c = search rules

pub returns-else-test-clause-value : goal.returns-else-test-clause-value
unfolding fails
returns-else-test-clause-value c = search rules
