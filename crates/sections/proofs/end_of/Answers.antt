use Rattle.sections.proofs.Sections.{end-steps}
use native.Mathlib.Omega.{arith}
use Rattle.sections.proofs.end_of.Goals as goal

pub overflow_mul-result : goal.overflow_mul-result
overflow_mul-result c =
    omega (
      arith,
      end-steps c.args.k c.entry_words-words.result c.count_at.result
          c.args.page.now c.entry_words-words.ensures.0 c.count_at.ensures,
    )

pub overflow_mul-result-2 : goal.overflow_mul-result-2
overflow_mul-result-2 c =
    omega (
      arith,
      end-steps c.args.k c.entry_words-words.result c.count_at.result
          c.args.page.now c.entry_words-words.ensures.0 c.count_at.ensures,
    )

pub overflow_add-result : goal.overflow_add-result
overflow_add-result c =
    omega (
      arith,
      end-steps c.args.k c.entry_words-words.result c.count_at.result
          c.args.page.now c.entry_words-words.ensures.0 c.count_at.ensures,
    )

pub returns : goal.returns
returns c =
    omega (
      arith,
      end-steps c.args.k c.entry_words-words.result c.count_at.result
          c.args.page.now c.entry_words-words.ensures.0 c.count_at.ensures,
    )
