use Rattle.std.proofs.Common.{arith}
use Rattle.std.proofs.lemmas.Grind.{common_steps}
use Rattle.words.specs.Tests.{both}
use Rattle.versions.specs.Edition.{edition_ok}
use Rattle.versions.proofs.is_edition.Goals as goal

pub returns : goal.returns
unfolding edition_ok both
returns c = let h = c.contains.ensures.cases in grind (arith, common_steps)
