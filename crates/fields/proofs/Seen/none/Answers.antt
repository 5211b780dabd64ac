use mathlib.Core.Path.{refl}
use Rattle.fields.specs.Steps.{none_seen}
use Rattle.fields.proofs.Seen.none.Goals as goal

pub returns : goal.returns
unfolding none_seen
returns c = refl
