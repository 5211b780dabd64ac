-- What a signing call leaves of an image, refused or not. Assumes nothing.
use Prim.Native.Nat.{ℕ}
use mathlib.Core.Path.{◌≡◌}
use mathlib.Core.Bool.{true, false}
use mathlib.Core.List.{List}
use Rattle.codes.specs.Codes.{is_ok, and_then, answer_of}
use Rattle.codes.specs.declared.Code.{Code}
use Rattle.codes.specs.declared.Code.TheVariants.{Ok}
use Rattle.codes.proofs.Gates.{first-ok}
use Rattle.queue.specs.Queue.{Lists, SigningStep, queued}
use Rattle.queue_image.specs.OnImage.{ImageStep, image_step}

module _ (k : Code) (new : SigningStep) (page : List ℕ) (q : Lists) (after image : List ℕ) where
  pub image-refuses : is_ok k ≡ false → ◌≡◌ {A = ImageStep} (record { answer = answer_of k 0 0; page = page; image = image })
      (image_step (queued k new page q) after image)
  unfolding image_step queued answer_of
  image-refuses h = rw (h, h)

  pub image-accepts : k ≡ Ok → is_ok new.answer.code ≡ true →
      ◌≡◌ {A = ImageStep} (record { answer = new.answer; page = new.page; image = after }) (image_step (queued k new page q) after image)
  unfolding image_step queued
  image-accepts e h = rw (e, h)

-- the code that is OK
pub ok-is : (k : Code) → is_ok k ≡ true → k ≡ Ok
unfolding and_then
ok-is k h = first-ok k Ok (rw h)

-- ---- a refused call on the lists
module _ (k : Code) (new : SigningStep) (page : List ℕ) (q : Lists) where
  pub list-refuses : (c : Code) → k ≡ c → is_ok c ≡ false →
      ◌≡◌ {A = SigningStep} (record { answer = answer_of c 0 0; page = page; queue = q }) (queued k new page q)
  unfolding queued
  list-refuses c e h = rw (e, h)
