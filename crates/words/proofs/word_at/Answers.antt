use Rattle.words.proofs.Read.{num-chunk}
use Rattle.words.proofs.word_at.Goals as goal

pub returns-in-Some : goal.returns-in-Some
returns-in-Some c = num-chunk 7 c.args.at _ c.args.s.now c.in-Some.ensures.1 c.from_le_bytes.ensures
