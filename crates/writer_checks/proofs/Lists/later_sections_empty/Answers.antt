use Rattle.std.proofs.Common.{refl, ◌∙◌, arith}
use Rattle.versions.proofs.Editions.{section-count-most}
use Rattle.writer_checks.proofs.Described.{late-of, late-same}
use Rattle.writer_checks.proofs.Lists.later_sections_empty.Goals as goal

pub empty_from-requires : goal.empty_from-requires
empty_from-requires c = let m = section-count-most c.args.e.minor in omega (arith, c.sections.ensures.0)

pub returns : goal.returns
returns c =
    let a = c.args in
    let l = a.self in
    let m = section-count-most a.e.minor in
    late-of c.empty_from.result c.sections.result _ refl (omega (arith, c.sections.ensures.0)) (rw c.lens.ensures at c.empty_from.ensures)
    ∙ rw c.sections.ensures.0 (late-same a.e.minor l.dram.now l.console.now l.ncoh.now l.coh.now)
