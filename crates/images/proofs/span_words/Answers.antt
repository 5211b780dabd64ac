use mathlib.Core.Path.{refl}
use Rattle.images.specs.Image.{span_words}
use Rattle.images.proofs.span_words.Goals as goal

pub returns : goal.returns
unfolding span_words
returns c = refl
