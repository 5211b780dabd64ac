use mathlib.Core.Path.{ap}
use native.Mathlib.Omega.{arith}
use Rattle.manifest_extent.specs.Kept.{span_end, section_end}
use Rattle.manifest_extent.proofs.Kept.{span_fits}
use Rattle.manifest_extent.proofs.section_end.Goals as goal

pub overflow_add-result : goal.overflow_add-result
overflow_add-result c = let l = span_fits _ _ _ c.place_in-place.ensures in omega arith

pub returns : goal.returns
unfolding section_end span_end
returns c =
    let p = c.place_in-place.ensures in
    (ap span_end p, span_fits _ _ _ p)
