use native.Mathlib.Omega.{arith}
use Rattle.reader.specs.Reading.{section_of}
use Rattle.manifest_extent.specs.Kept.{highest_of, kept_for}
use Rattle.manifest_extent.proofs.Kept.{end-most}
use Rattle.manifest_extent.proofs.kept_for.Goals as goal

pub overflow_add-result : goal.overflow_add-result
overflow_add-result c =
    let v = c.args.view in
    omega (arith, end-most 0 v.dram, end-most 1 v.console, end-most 2 v.ncoh, end-most 3 v.coh)

pub overflow_mul-result : goal.overflow_mul-result
overflow_mul-result c =
    let v = c.args.view in
    omega (arith, end-most 0 v.dram, end-most 1 v.console, end-most 2 v.ncoh, end-most 3 v.coh)

pub returns : goal.returns
unfolding kept_for highest_of section_of
returns c =
    let v = c.args.view in
    (cc, omega (arith, end-most 0 v.dram, end-most 1 v.console, end-most 2 v.ncoh, end-most 3 v.coh))
