use Rattle.std.proofs.Common.{◌∙◌, arith}
use Rattle.sections.proofs.Core.{core-count, core-pointer, core-check}
use Rattle.sections.proofs.fn.sections_ok.all.Goals as goal

pub section_ok-requires : goal.section_ok-requires
section_ok-requires c =
    let p = c.requires in (
      p.0,
      p.2,
      p.3,
      p.4,
      c.count_at-count.ensures ∙ core-count _ _ p.1 c.args.k (omega arith),
      c.pointer_at-pointer.ensures ∙ core-pointer _ _ p.1 c.args.k (omega arith),
      c.check_at-check.ensures ∙ core-check _ _ p.1 c.args.k (omega arith),
    )
