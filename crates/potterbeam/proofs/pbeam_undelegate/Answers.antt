use mathlib.Core.Path.{◌∙◌}
use Rattle.export_rules.specs.Exports.{move_in}
use Rattle.export_rules.proofs.Left.{move-left}
use Rattle.potterbeam.proofs.pbeam_undelegate.Goals as goal

pub returns : goal.returns
unfolding move_in
returns c =
    move-left _ _ _ _ _ c.registers.ensures (c.undelegate.ensures ∙ rw
    c.record_of.ensures)
