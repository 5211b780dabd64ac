use Rattle.features.proofs.Feature.{bits-above}
use Rattle.features.proofs.is_above.Goals as goal

pub returns : goal.returns
returns c = bits-above c.args.bits c.args.mecid
