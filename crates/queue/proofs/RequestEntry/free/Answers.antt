use mathlib.Core.Path.{refl}
use Rattle.queue.specs.Queue.{no_request}
use Rattle.queue.proofs.RequestEntry.free.Goals as goal

pub returns : goal.returns
unfolding no_request
returns c = refl
