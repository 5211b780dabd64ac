use Rattle.export_rules.specs.Exports.{sign_in}
use Rattle.export_rules.proofs.Left.{sign-left}
use Rattle.potterbeam.proofs.pbeam_sign.Goals as goal

pub returns : goal.returns
unfolding sign_in
returns c = sign-left _ _ _ _ c.registers.ensures c.sign_image.ensures
