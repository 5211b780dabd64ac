use mathlib.Core.Path.{refl}
use Rattle.images.specs.Image.{register_words}
use Rattle.images.proofs.registers.Goals as goal

pub returns : goal.returns
unfolding register_words
returns c = refl
