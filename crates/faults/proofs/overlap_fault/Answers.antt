use Rattle.std.proofs.Common.{arith}
use Rattle.sections.proofs.Sections.{end-steps}
use Rattle.faults.proofs.Faults.{told-overlap}
use Rattle.faults.proofs.overlap_fault.Goals as goal

pub overflow_mul-to : goal.overflow_mul-to
overflow_mul-to c =
    omega (
      arith,
      end-steps c.args.i c.entry_words-words.result c.count_at.result
          c.args.page.now c.entry_words-words.ensures.0 c.count_at.ensures,
    )

pub overflow_mul-to-2 : goal.overflow_mul-to-2
overflow_mul-to-2 c =
    omega (
      arith,
      end-steps c.args.i c.entry_words-words.result c.count_at.result
          c.args.page.now c.entry_words-words.ensures.0 c.count_at.ensures,
    )

pub overflow_add-to : goal.overflow_add-to
overflow_add-to c =
    omega (
      arith,
      c.pointer_at-from.ensures,
      end-steps c.args.i
          c.entry_words-words.result c.count_at.result c.args.page.now
          c.entry_words-words.ensures.0 c.count_at.ensures,
    )

pub returns : goal.returns
returns c =
    told-overlap c.args.page.now c.args.i _ _ _
    c.entry_words-words.ensures.0 c.count_at.ensures c.pointer_at-from.ensures _
    c.clash_fault.ensures
