use borrow.Author.Tests.{lt-ltb, le-ltb}
use borrow.Author.Rules.{rules}
use Rattle.realm_next.specs.Steps.{hit_below}
use Rattle.realm_next.proofs.hit_below.Goals as goal

pub returns-then-index-granules : goal.returns-then-index-granules
unfolding hit_below
returns-then-index-granules c = let a = c.args in simp (lt-ltb a.index a.granules (search rules))

pub returns-else-index-granules : goal.returns-else-index-granules
unfolding hit_below
returns-else-index-granules c = let a = c.args in simp (le-ltb a.index a.granules (search rules))
