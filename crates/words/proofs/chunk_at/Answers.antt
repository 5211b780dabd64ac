use Rattle.std.proofs.Common.{arith}
use Rattle.std.proofs.lemmas.Grind.{common_steps}
use Rattle.words.specs.Word.{part}
use Rattle.words.proofs.chunk_at.Goals as goal

pub returns : goal.returns
unfolding part
returns g c = grind (arith, common_steps)
