-- A signing call on an image: the answer is that of the queue in the image, and what the call leaves of the image. Assumes nothing.
use Rattle.std.specs.Prelude.{ℕ, List}
use Rattle.codes.specs.Codes.{if_ok}
use Rattle.codes.specs.declared.Answer.{Answer}
use Rattle.queue.specs.Queue.{SigningStep}

-- the answer, the page at exit, and the next image
pub record ImageStep : Type 0 where
  pub answer : Answer
  pub page : List ℕ
  pub image : List ℕ

-- after an OK the next image is `new`; a refusal leaves the image unchanged, even if no queue has such an image
unfoldable pub image_step : SigningStep → List ℕ → List ℕ → ImageStep
image_step s new image = record { answer = s.answer; page = s.page; image = if_ok s.answer.code new image }
