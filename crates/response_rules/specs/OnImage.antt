-- Pull, and the signer's own step, on the queue's image (CE4). Assumes nothing.
use Rattle.std.specs.Prelude.{ℕ, List}
use Rattle.codes.specs.Codes.{if_ok}
use Rattle.codes.specs.declared.Answer.{Answer}
use Rattle.queue.specs.Queue.{oldest_request}
use Rattle.queue_image.specs.Image.{lists_in, response_words}
use Rattle.queue_image.specs.Sides.{request_side, response_side, row_joined, row_dropped}
use Rattle.queue_image.specs.OnImage.{ImageStep, image_step}
use Rattle.response_rules.specs.Pull.{pull_of}
use Rattle.response_rules.specs.Sign.{signed_by, sign_of}

-- a pull into the buffer b, from the image w: no word of the requests changes
unfoldable pub pull_on : List ℕ → List ℕ → ImageStep
pull_on b w = image_step (pull_of b (lists_in w)) (row_dropped response_side w) w

-- the row of the response is added to the responses, and that of the oldest request is dropped
unfoldable pub sign_done : List ℕ → List ℕ → List ℕ
sign_done w s = row_dropped request_side (row_joined response_side (response_words (signed_by (oldest_request (lists_in w).requests) s)) w)

-- the answer, and the next image
pub record SignImage : Type 0 where
  pub answer : Answer
  pub image : List ℕ

-- the signer's own step on the image w
unfoldable pub sign_on : List ℕ → List ℕ → SignImage
sign_on w s = record { answer = (sign_of (lists_in w) s).answer; image = if_ok (sign_of (lists_in w) s).answer.code (sign_done w s) w }
