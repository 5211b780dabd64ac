use mathlib.Core.Path.{◌∙◌}
use Rattle.queue.specs.Queue.{waiting, lists_of}
use Rattle.queue.proofs.Sides.{slice-oldest}
use Rattle.queue.proofs.oldest_request.Goals as goal

pub returns : goal.returns
unfolding lists_of
returns c = c.first.ensures ∙ slice-oldest (waiting c.args.queue.requests)
