use mathlib.Core.Path.{refl}
use Rattle.queue.specs.Queue.{no_response}
use Rattle.queue.proofs.ResponseEntry.free.Goals as goal

pub returns : goal.returns
unfolding no_response
returns c = refl
