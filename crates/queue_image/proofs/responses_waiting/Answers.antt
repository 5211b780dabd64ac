use mathlib.Core.Path.{◌∙◌}
use lib.ListN.{get_or}
use Rattle.queue_image.specs.Image.{response_in, lists_in}
use Rattle.queue_image.proofs.Sides.{waits}
use Rattle.queue_image.proofs.responses_waiting.Goals as goal

pub returns : goal.returns
unfolding lists_in
returns c =
    let w = c.args.image.now in
    (c.rows_waiting.ensures.0 ∙ waits w response_in 16 (get_or w 1 0) 82, c.rows_waiting.ensures.1)
