use Rattle.queue_image.specs.Image.{queue_in}
use Rattle.queue_image.proofs.queue_of.Goals as goal

pub returns : goal.returns
unfolding queue_in
returns c = rw (c.side_in-requests.ensures, c.side_in-responses.ensures)
