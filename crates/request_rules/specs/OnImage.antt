-- Push on the queue's image (CE4). Assumes nothing.
use Rattle.std.specs.Prelude.{ℕ, List}
use Rattle.queue_image.specs.Image.{lists_in, request_words}
use Rattle.queue_image.specs.Sides.{request_side, row_joined}
use Rattle.queue_image.specs.OnImage.{ImageStep, image_step}
use Rattle.request_rules.specs.Push.{request_of, push_of}

-- the request's row is added to those that wait; no word of the responses changes
unfoldable pub push_done : List ℕ → List ℕ → List ℕ
push_done b w = row_joined request_side (request_words (request_of b)) w

-- a push of the request in the buffer b, on the image w
unfoldable pub push_on : List ℕ → List ℕ → ImageStep
push_on b w = image_step (push_of b (lists_in w)) (push_done b w) w
