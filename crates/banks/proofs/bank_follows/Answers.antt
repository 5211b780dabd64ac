use Rattle.std.proofs.Common.{rules, le-leb}
use borrow.Author.Tests.{lt-leb}
use Rattle.words.specs.Tests.{both}
use Rattle.banks.specs.Banks.{follows}
use Rattle.banks.proofs.bank_follows.Goals as goal

pub returns-then-low-base : goal.returns-then-low-base
unfolding follows both
returns-then-low-base c = let a = c.args in simp (le-leb a.low a.base (search rules)) c.bank_ok.ensures

pub returns-else-low-base : goal.returns-else-low-base
unfolding follows both
returns-else-low-base c = let a = c.args in simp (lt-leb a.low a.base (search rules))
