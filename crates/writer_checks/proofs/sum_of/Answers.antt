use Rattle.std.proofs.Common.{◌∙◌, arith}
use Rattle.writer_checks.proofs.Described.{sum-none, sum_more, sum-all}
use Rattle.writer_checks.proofs.sum_of.Goals as goal

pub loop-word-init : goal.loop-word-init
loop-word-init c = sum-none c.args.words.now

pub loop-word-preserved : goal.loop-word-preserved
loop-word-preserved c =
    let l = c.loop-word in
    sum_more c.args.words.now l.word-index l.total _ (omega arith) l.invariant c.wrapping_add_u64-total.ensures.value

pub returns : goal.returns
returns c = c.loop-word.invariant ∙ rw (sum-all c.args.words.now c.loop-word.word-index (omega arith))
