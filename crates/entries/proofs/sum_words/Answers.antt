use Rattle.entries.specs.Entry.{sum}
use Rattle.words.specs.Word.{words_of}
use Rattle.entries.specs.Steps.{sum_at}
use Rattle.entries.proofs.Entries.{sum_step}
use Rattle.std.proofs.Common.{◌≡◌, refl, ◌∙◌, arith, rules}
use Rattle.words.proofs.Read.{word-lent}
use Rattle.entries.proofs.sum_words.Goals as goal

pub loop-i-init : goal.loop-i-init
unfolding words_of sum
loop-i-init c = (search rules, search rules, refl)

pub loop-i-preserved : goal.loop-i-preserved
loop-i-preserved c =
    let l = c.loop-i in
    let p = c.args.page.now in (
      search rules,
      search rules,
      sum_step _ _ l.from _ _ _ _ _ (omega arith) l.invariant.1 l.invariant.2
          (c.whole_word-sum.ensures ∙ word-lent l.from 8 0 l.from p (omega arith) (omega arith) (omega arith))
          refl,
    )

pub returns : goal.returns
unfolding sum_at
returns c = let z : c.loop-i.i ≡ c.args.n = omega arith in rw z at c.loop-i.invariant.2
