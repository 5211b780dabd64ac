use Rattle.std.specs.Prelude.{[]}
use mathlib.Core.Path.{◌∙◌}
use Rattle.queue.specs.Queue.{queue_holding}
use Rattle.queue.proofs.Holding.{requests_held, responses_held}
use Rattle.queue.proofs.Queue.empty.Goals as goal

pub returns : goal.returns
unfolding queue_holding
returns c = rw (c.empty.ensures ∙ requests_held [], c.empty-2.ensures ∙ responses_held [])
