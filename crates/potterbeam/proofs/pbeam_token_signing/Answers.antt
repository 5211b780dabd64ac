use mathlib.Core.Path.{◌∙◌}
use Rattle.export_rules.specs.Exports.{signing_in}
use Rattle.export_rules.proofs.Left.{signing-left}
use Rattle.potterbeam.proofs.pbeam_token_signing.Goals as goal

pub returns : goal.returns
unfolding signing_in
returns c =
    signing-left _ _ _ _ _ c.registers.ensures (c.token_signing_image-answer.ensures ∙
    rw c.record_of-record.ensures)
