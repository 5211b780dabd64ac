use Rattle.codes.specs.Codes.{answer_of}
use Rattle.codes.proofs.answer_with.Goals as goal

pub returns : goal.returns
unfolding answer_of
returns c = rw c.from.ensures
