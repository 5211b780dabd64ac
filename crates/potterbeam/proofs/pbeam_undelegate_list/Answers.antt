use mathlib.Core.Path.{◌∙◌}
use Rattle.export_rules.specs.Exports.{move_list_in}
use Rattle.export_rules.proofs.Left.{move-left}
use Rattle.potterbeam.proofs.pbeam_undelegate_list.Goals as goal

pub returns : goal.returns
unfolding move_list_in
returns c =
    move-left _ _ _ _ _ c.registers.ensures (c.undelegate_list.ensures ∙ rw
    c.record_of.ensures)
