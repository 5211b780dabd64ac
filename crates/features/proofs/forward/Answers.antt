use mathlib.Core.Path.{refl}
use Rattle.features.specs.Features.{forward_of}
use Rattle.features.proofs.forward.Goals as goal

pub returns : goal.returns
unfolding forward_of
returns c = refl
