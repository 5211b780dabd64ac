use mathlib.Core.Path.{ap, ◌∙◌}
use Rattle.images.specs.Image.{register_words}
use Rattle.potterbeam.proofs.pbeam_features.Goals as goal

pub returns : goal.returns
returns c = rw (← c.record_of.ensures) (c.registers.ensures ∙ ap register_words c.features.ensures)
