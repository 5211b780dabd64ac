use mathlib.Core.Path.{ap, ◌∙◌}
use Rattle.images.specs.Image.{span_words}
use Rattle.potterbeam.proofs.pbeam_array.Goals as goal

pub returns : goal.returns
returns c = c.span_words.ensures ∙ ap span_words c.place.ensures.value
