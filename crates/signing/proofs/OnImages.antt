-- What a call does in a buffer and on an image, stated for the page that lends the buffer. Assumes nothing.
use Prim.Native.Nat.{ℕ, ◌+◌, ◌≤◌}
use mathlib.Core.Path.{◌≡◌, refl, sym, ap, ◌∙◌}
use mathlib.Core.List.{List, ◌++◌}
use lib.ListN.{length, take, drop}
use Rattle.words.specs.Word.{part, splice}
use Rattle.codes.specs.Codes.{if_ok}
use Rattle.codes.specs.declared.Answer.{Answer}
use Rattle.codes.proofs.Gates.{if-ok-by}
use Rattle.queue.specs.Queue.{SigningStep}
use Rattle.queue_image.specs.OnImage.{ImageStep, image_step}
use Rattle.signing.specs.Signing.{put_back}
use Rattle.signing.proofs.Buffers.{back_at, back-same}

module _ (at n : ℕ) (page : List ℕ) (a : Answer) (image : List ℕ) (s : SigningStep) (new w : List ℕ) where
  over : (t : ImageStep) → t ≡ image_step s new w → ◌≡◌ {A = ImageStep}
      (record { answer = t.answer; page = splice at t.page page; image = t.image }) (image_step (put_back at page s) new w)
  unfolding image_step put_back
  over t h = ap (λ (x : ImageStep). record { answer = x.answer; page = splice at x.page page; image = x.image }) h

  -- a call on a lent buffer, which is c at exit; and a call that only reads it
  pub put-back-on : (c : List ℕ) → length c ≡ n → ◌≡◌ {A = ImageStep} (record { answer = a; page = c; image = image }) (image_step s new w) →
      ◌≡◌ {A = ImageStep} (record { answer = a; page = take at page ++ (c ++ drop n (drop at page)); image = image })
      (image_step (put_back at page s) new w)
  put-back-on c e h = rw (back_at at n page c e) (over _ h)

  pub put-same-on : at + n ≤ length page → ◌≡◌ {A = ImageStep} (record { answer = a; page = part at n page; image = image })
      (image_step s new w) →
      ◌≡◌ {A = ImageStep} (record { answer = a; page = page; image = image }) (image_step (put_back at page s) new w)
  put-same-on room h = ap (λ (p : List ℕ). record { answer = a; page = p; image = image }) (sym (back-same at n page room)) ∙ over _ h

-- a call that leaves the image unchanged, accepted or not
pub image-same : (s : SigningStep) (t : SigningStep) (w : List ℕ) → t ≡ s →
    ◌≡◌ {A = ImageStep} (record { answer = t.answer; page = t.page; image = w }) (image_step s w w)
unfolding image_step
image-same s t w e =
    let i : w ≡ if_ok s.answer.code w w = if-ok-by (λ (x : List ℕ). w ≡ x) s.answer.code w w (λ h. refl) (λ h. refl) in
    rw e (ap (λ (x : List ℕ). record { answer = s.answer; page = s.page; image = x }) i)
