use mathlib.Core.Path.{ap}
use Rattle.export_rules.specs.Exports.{set_up_left, set_up_in}
use Rattle.potterbeam.proofs.pbeam_set_up_granules.Goals as goal

pub returns : goal.returns
unfolding set_up_in set_up_left
returns c = rw c.x0.ensures (ap set_up_left c.set_up.ensures.fact)
