use mathlib.Core.Path.{◌∙◌}
use Rattle.queue.specs.Queue.{waiting, lists_of, queue_holding}
use Rattle.queue.proofs.Holding.{requests_held, responses-after}
use Rattle.queue.proofs.clear_free.Goals as goal

pub returns : goal.returns
unfolding lists_of queue_holding
returns c =
    let q = c.args.queue in
    rw (c.after.ensures ∙ requests_held (waiting q.requests), c.after-2.ensures ∙ responses-after 0 q.responses)
