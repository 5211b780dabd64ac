use Rattle.queue.specs.Queue.{pad_to}
use Rattle.queue.proofs.Side.empty.Goals as goal

pub returns : goal.returns
unfolding pad_to
returns g c = rw c.free.ensures
