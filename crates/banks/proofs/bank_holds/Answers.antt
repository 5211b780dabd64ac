use Rattle.std.proofs.Common.{rules, le-leb}
use borrow.Author.Tests.{lt-leb}
use Rattle.words.specs.Tests.{both}
use Rattle.banks.specs.Banks.{holds}
use Rattle.banks.proofs.Passing.{below-end}
use Rattle.banks.proofs.bank_holds.Goals as goal

pub returns-then-base-address : goal.returns-then-base-address
unfolding holds both
returns-then-base-address c =
    let a = c.args in
    simp (le-leb a.base a.address (search rules)) (below-end a.base a.size a.address (search rules))

pub returns-else-base-address : goal.returns-else-base-address
unfolding holds both
returns-else-base-address c = let a = c.args in simp (lt-leb a.base a.address (search rules))
