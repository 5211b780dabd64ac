use Rattle.std.proofs.Common.{refl, arith}
use Rattle.entries.specs.Entry.{size}
use Rattle.pack.proofs.array_size.Goals as goal

pub overflow_mul-result : goal.overflow_mul-result
unfolding size
overflow_mul-result c = rw c.entry_words-words.ensures.0 (omega arith)

pub overflow_mul-result-2 : goal.overflow_mul-result-2
unfolding size
overflow_mul-result-2 c = rw c.entry_words-words.ensures.0 (omega arith)

pub returns : goal.returns
unfolding size
returns c = rw c.entry_words-words.ensures.0 (refl, omega arith)
