use Rattle.std.proofs.Common.{◌≡◌, refl, arith, rules}
use Rattle.words.specs.Word.{words_of}
use Rattle.entries.specs.Entry.{sum}
use Rattle.entries.specs.Steps.{sum_at}
use Rattle.entries.proofs.Entries.{sum_step}
use Rattle.faults.proofs.sum_words.Goals as goal

pub loop-i-init : goal.loop-i-init
unfolding words_of sum
loop-i-init c = (search rules, search rules, refl)

pub loop-i-preserved : goal.loop-i-preserved
loop-i-preserved c =
    let l = c.loop-i in (
      search rules,
      search rules,
      sum_step _ _ l.from _ _ _ _ _ (omega arith) l.invariant.1 l.invariant.2 c.word_at.ensures
          c.wrapping_add_u64-sum.ensures.value,
    )

pub returns : goal.returns
unfolding sum_at
returns c = let z : c.loop-i.i ≡ c.args.n = omega arith in rw z at c.loop-i.invariant.2
