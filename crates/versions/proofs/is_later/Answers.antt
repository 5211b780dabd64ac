use Rattle.versions.specs.Version.{later}
use mathlib.Core.Path.{refl}
use Rattle.versions.proofs.is_later.Goals as goal

pub returns : goal.returns
unfolding later
returns c = refl
