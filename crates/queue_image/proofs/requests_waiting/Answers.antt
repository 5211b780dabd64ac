use mathlib.Core.Path.{◌∙◌}
use lib.ListN.{get_or}
use Rattle.queue_image.specs.Image.{request_in, lists_in}
use Rattle.queue_image.proofs.Sides.{waits}
use Rattle.queue_image.proofs.requests_waiting.Goals as goal

pub returns : goal.returns
unfolding lists_in
returns c =
    let w = c.args.image.now in
    (c.rows_waiting.ensures.0 ∙ waits w request_in 10 (get_or w 0 0) 2, c.rows_waiting.ensures.1)
