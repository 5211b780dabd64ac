use Rattle.versions.specs.Version.{major_of}
use borrow.Author.Rules.{rules}
use Rattle.versions.proofs.major.Goals as goal

pub returns : goal.returns
unfolding major_of
returns c = search rules
