use borrow.Author.Tests.{lt-ltb, le-ltb}
use borrow.Author.Rules.{rules}
use Rattle.words.specs.Tests.{both}
use Rattle.granules.proofs.table_fits.Goals as goal

pub returns-then-count-gt0 : goal.returns-then-count-gt0
unfolding both
returns-then-count-gt0 c = simp (lt-ltb 0 c.args.count (search rules))

pub returns-else-count-gt0 : goal.returns-else-count-gt0
unfolding both
returns-else-count-gt0 c = simp (le-ltb 0 c.args.count (search rules))
