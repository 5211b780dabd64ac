use Rattle.versions.specs.Version.{minor_of}
use borrow.Author.Rules.{rules}
use Rattle.versions.proofs.minor.Goals as goal

pub returns : goal.returns
unfolding minor_of
returns c = search rules
