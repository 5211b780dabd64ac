-- Pull, and the signer's own step, on an image, refused or not. Assumes nothing.
use Prim.Native.Nat.{ℕ, ◌+◌, ◌≤◌, ◌<◌}
use mathlib.Core.Path.{◌≡◌, refl}
use mathlib.Core.Bool.{false}
use mathlib.Core.List.{List}
use native.Mathlib.Omega.{arith}
use lib.ListN.{length}
use borrow.Author.Tests.{ltb-false, leb-false, eqb-false}
use Rattle.words.specs.Word.{part, splice}
use Rattle.codes.specs.Codes.{is_ok, answer_of}
use Rattle.codes.specs.declared.Code.{Code}
use Rattle.codes.specs.declared.Code.TheVariants.{Ok}
use Rattle.codes.proofs.Gates.{fails-ok}
use Rattle.queue.specs.declared.Request.{Request}
use Rattle.queue.specs.Queue.{Lists, oldest_response}
use Rattle.queue_image.specs.Image.{request_in, response_in, lists_in, response_words}
use Rattle.queue_image.specs.Sides.{request_side, response_side, row_dropped}
use Rattle.queue_image.specs.Steps.{row_appended}
use Rattle.queue_image.specs.OnImage.{ImageStep}
use Rattle.queue_image.proofs.InPlace.{row-room-joined, responses-wait, front-request-is, front-response-is}
use Rattle.queue_image.proofs.Steps.{image-refuses, image-accepts}
use Rattle.response_rules.specs.Pull.{response_bytes, pull_code, pull_of}
use Rattle.response_rules.specs.Sign.{sign_code, signed_by, sign_of}
use Rattle.response_rules.specs.OnImage.{pull_on, sign_done, SignImage, sign_on}

-- ---- pull
-- what follows from OK
pub pull-passed : (size : ℕ) (q : Lists) → pull_code size q ≡ Ok →
    (length q.responses ≡ 0 → ⊥) × (18 + length (oldest_response q.responses).signature ≤ size)
unfolding pull_code
pull-passed size q h =
    let waits = fails-ok _ _ _ refl h in
    let fits = fails-ok _ _ _ refl waits.1 in
    (eqb-false _ _ waits.0, ltb-false _ _ fits.0)

module _ (b w : List ℕ) (k : Code) (e : k ≡ pull_code (length b) (lists_in w)) where
  pub pull-image-refused : is_ok k ≡ false → ◌≡◌ {A = ImageStep} (record { answer = answer_of k 0 0; page = b; image = w }) (pull_on b w)
  unfolding pull_on pull_of
  pull-image-refused h = rw e (image-refuses (pull_code (length b) (lists_in w)) _ b (lists_in w) (row_dropped response_side w) w (rw e at h))

  module _ (o : k ≡ Ok) where
    pub pull-room : 18 + length (response_in (part 82 16 w)).signature ≤ length b
    pull-room =
        let p = pull-passed (length b) (lists_in w) (rw e at o) in
        rw (front-response-is w p.0) at p.1

    pub pull-image-done : ◌≡◌ {A = ImageStep} (record {
      answer = answer_of Ok 0 0;
      page = splice 0 (response_bytes (response_in (part 82 16 w))) b;
      image = row_dropped response_side w;
    }) (pull_on b w)
    unfolding pull_on pull_of answer_of
    pull-image-done =
        let p = pull-passed (length b) (lists_in w) (rw e at o) in
        rw (← front-response-is w p.0) (image-accepts (pull_code (length b) (lists_in w)) _ b (lists_in w) (row_dropped response_side w) w
        (rw e at o) refl)

-- ---- the signer's step
-- what follows from OK
pub sign-passed : (q : Lists) (s : List ℕ) → sign_code q s ≡ Ok →
    (length s ≤ 104) × (length q.requests ≡ 0 → ⊥) × (length q.responses < 8)
unfolding sign_code
sign-passed q s h =
    let some = fails-ok _ _ _ refl h in
    let short = fails-ok _ _ _ refl some.1 in
    let waits = fails-ok _ _ _ refl short.1 in
    let room = fails-ok _ _ _ refl waits.1 in
    (ltb-false _ _ short.0, eqb-false _ _ waits.0, leb-false _ _ room.0)

module _ (w s : List ℕ) (k : Code) (e : k ≡ sign_code (lists_in w) s) where
  pub sign-image-refused : is_ok k ≡ false → ◌≡◌ {A = SignImage} (record { answer = answer_of k 0 0; image = w }) (sign_on w s)
  unfolding sign_on sign_of answer_of
  sign-image-refused h = rw (← e, h)

  pub sign-image-done : k ≡ Ok → (r : Request) → r ≡ request_in (part 2 10 w) →
      ◌≡◌ {A = SignImage} (record {
        answer = answer_of Ok 0 0;
        image = row_dropped request_side (row_appended response_side (response_words (signed_by r s)) w);
      }) (sign_on w s)
  unfolding sign_on sign_of sign_done answer_of
  sign-image-done o r f =
      let p = sign-passed (lists_in w) s (rw e at o) in
      let j = row-room-joined response_side (response_words (signed_by r s)) w (omega (arith, responses-wait w, p.2)) in
      rw (← e, o, j, f, front-request-is w p.1)
