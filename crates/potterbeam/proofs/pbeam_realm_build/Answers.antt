use mathlib.Core.Path.{ap, ◌∙◌}
use Rattle.export_rules.specs.Exports.{build_left, build_in}
use Rattle.potterbeam.proofs.pbeam_realm_build.Goals as goal

pub returns : goal.returns
unfolding build_in build_left
returns c =
    rw c.built_x0.ensures (ap build_left (c.build.ensures.fact ∙
    rw c.granule_count-n.ensures))
