-- Push on an image, refused or not. Assumes nothing.
use Prim.Native.Nat.{ℕ, ◌≤◌, ◌<◌}
use mathlib.Core.Path.{◌≡◌, refl}
use mathlib.Core.Bool.{false}
use mathlib.Core.List.{List}
use native.Mathlib.Omega.{arith}
use lib.ListN.{length}
use borrow.Author.Tests.{ltb-false, leb-false}
use Rattle.codes.specs.Codes.{is_ok, answer_of}
use Rattle.codes.specs.declared.Code.{Code}
use Rattle.codes.specs.declared.Code.TheVariants.{Ok}
use Rattle.codes.proofs.Gates.{fails-ok}
use Rattle.queue.specs.Queue.{Lists}
use Rattle.queue_image.specs.Image.{lists_in, request_words}
use Rattle.queue_image.specs.Sides.{request_side}
use Rattle.queue_image.specs.Steps.{row_appended}
use Rattle.queue_image.specs.OnImage.{ImageStep}
use Rattle.queue_image.proofs.InPlace.{row-room-joined, requests-wait}
use Rattle.queue_image.proofs.Steps.{image-refuses, image-accepts}
use Rattle.request_rules.specs.Push.{request_of, push_code, push_of}
use Rattle.request_rules.specs.OnImage.{push_done, push_on}

-- what follows from OK for the buffer and the requests that wait
pub push-passed : (b : List ℕ) (q : Lists) → push_code b q ≡ Ok → (80 ≤ length b) × (length q.requests < 8)
unfolding push_code
push-passed b q h =
    let size = fails-ok _ _ _ refl h in
    let algorithm = fails-ok _ _ _ refl size.1 in
    let hash = fails-ok _ _ _ refl algorithm.1 in
    let room = fails-ok _ _ _ refl hash.1 in
    (ltb-false _ _ size.0, leb-false _ _ room.0)

module _ (b w : List ℕ) (k : Code) (e : k ≡ push_code b (lists_in w)) where
  pub push-image-refused : is_ok k ≡ false → ◌≡◌ {A = ImageStep} (record { answer = answer_of k 0 0; page = b; image = w }) (push_on b w)
  unfolding push_on push_of
  push-image-refused h = rw e (image-refuses (push_code b (lists_in w)) _ b (lists_in w) (push_done b w) w (rw e at h))

  pub push-image-done : k ≡ Ok → ◌≡◌ {A = ImageStep} (record
      { answer = answer_of Ok 0 0; page = b; image = row_appended request_side (request_words (request_of b)) w }) (push_on b w)
  unfolding push_on push_of push_done answer_of
  push-image-done h =
      let p = push-passed b (lists_in w) (rw e at h) in
      rw (row-room-joined request_side (request_words (request_of b)) w (omega (arith, requests-wait w, p.1)))
      (image-accepts (push_code b (lists_in w)) _ b (lists_in w) (push_done b w) w (rw e at h) refl)
