use Rattle.std.proofs.Common.{arith}
use Rattle.versions.specs.Version.{agreed}
use Rattle.versions.proofs.agreed_minor.Goals as goal

pub returns : goal.returns
unfolding agreed
returns c = (omega (arith, c.min.ensures, c.minor.ensures.0), omega (arith, c.min.ensures))
