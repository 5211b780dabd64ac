-- Only a push reads the page: for any other opcode and two pages of the same length the answer, and what then waits, are the same, also on
-- the queue's image. Assumes nothing.
use Prim.Native.Nat.{ℕ}
use mathlib.Core.Path.{◌≡◌, refl}
use mathlib.Core.Bool.{Bool, true, false, cond}
use mathlib.Core.List.{List}
use native.Mathlib.Omega.{arith}
use lib.ListN.{length, length-take, length-drop}
use lib.Dec.{eqb}
use borrow.Author.Tests.{eqb-true}
use Rattle.words.specs.Word.{part}
use Rattle.boot.specs.declared.Record.{Record}
use Rattle.buffer_check.specs.Range.{place_of}
use Rattle.codes.specs.Codes.{boot_params, is_ok}
use Rattle.queue.specs.Queue.{Lists, SigningStep, queued}
use Rattle.queue_image.specs.Image.{lists_in}
use Rattle.queue_image.specs.OnImage.{image_step}
use Rattle.response_rules.specs.Pull.{pull_code, pull_of}
use Rattle.signing.specs.Signing.{opcode_of, shared_code, public_code, public_of, op_of, put_back, op_at, signing_of}
use Rattle.signing.specs.OnImage.{image_done, signing_done, signing_on}
use Rattle.signing.specs.declared.Opcode.{Opcode}
use Rattle.signing.specs.declared.Opcode.TheVariants.{Push, Pull, Key, Other}

-- equal except for the page
abbrev pub SameSigning : SigningStep → SigningStep → Type 0
SameSigning x y = (x.answer ≡ y.answer) × (x.queue ≡ y.queue)

-- opcode 1 is the only push
not-push : (op : ℕ) → (op ≡ 1 → ⊥) → opcode_of op ≡ Push → ⊥
unfolding opcode_of
not-push op n h = go (eqb op 1) (eqb op 2) (eqb op 3) refl h
  where
    go : (a b d : Bool) → eqb op 1 ≡ a → cond a Push (cond b Pull (cond d Key Other)) ≡ Push → ⊥
    go true b d e h = n (eqb-true op 1 e)
    go false true d e h = let z : ◌≡◌ {A = ℕ} 0 1 = cc in omega arith
    go false false true e h = let z : ◌≡◌ {A = ℕ} 0 1 = cc in omega arith
    go false false false e h = let z : ◌≡◌ {A = ℕ} 0 1 = cc in omega arith

queued-same : (b : Bool) (x y u v : SigningStep) → SameSigning x y → SameSigning u v → SameSigning (cond b x u) (cond b y v)
queued-same true x y u v h k = h
queued-same false x y u v h k = k

-- an opcode in two buffers of the same length
op-unread : (o : Opcode) (a b : List ℕ) (q : Lists) (key : List ℕ) → (o ≡ Push → ⊥) → length a ≡ length b →
    SameSigning (op_of o a q key) (op_of o b q key)
unfolding op_of pull_of public_of queued
op-unread Push a b q key n e = absurd (n refl)
op-unread Pull a b q key n e = rw e (queued-same (is_ok (pull_code (length b) q)) _ _ _ _ (refl, refl) (refl, refl))
op-unread Key a b q key n e = rw e (queued-same (is_ok (public_code (length b) key)) _ _ _ _ (refl, refl) (refl, refl))
op-unread Other a b q key n e = (refl, refl)

part_same : (at n : ℕ) (p q : List ℕ) → length p ≡ length q → length (part at n p) ≡ length (part at n q)
unfolding part
part_same at n p q e = rw (length-take, length-drop, length-take, length-drop, e)

pub signing-unread : (r : Record) (p q : List ℕ) (w : Lists) (key : List ℕ) (op pa size curve : ℕ) → (op ≡ 1 → ⊥) → length p ≡ length q →
    SameSigning (signing_of r p w key op pa size curve) (signing_of r q w key op pa size curve)
unfolding signing_of queued op_at put_back
signing-unread r p q w key op pa size curve n e =
    let s = op-unread (opcode_of op) (part (place_of (boot_params r) pa) size p) (part (place_of (boot_params r) pa) size q) w key
    (not-push op n) (part_same (place_of (boot_params r) pa) size p q e) in
    rw e (queued-same (is_ok (shared_code r (length q) (opcode_of op) pa size curve)) _ _ _ _ (s.0, s.1) (refl, refl))

-- ---- on the image
done-unread : (o : Opcode) (a b w : List ℕ) → (o ≡ Push → ⊥) → image_done o a w ≡ image_done o b w
unfolding image_done
done-unread Push a b w n = absurd (n refl)
done-unread Pull a b w n = refl
done-unread Key a b w n = refl
done-unread Other a b w n = refl

module _ (r : Record) (p q w : List ℕ) (op pa size : ℕ) (n : op ≡ 1 → ⊥) where
  pub signing-done-unread : signing_done r p w op pa size ≡ signing_done r q w op pa size
  unfolding signing_done
  signing-done-unread = done-unread (opcode_of op) _ _ w (not-push op n)

  pub signing-image-unread : (key : List ℕ) (curve : ℕ) → length p ≡ length q →
      ((signing_on r p w key op pa size curve).answer ≡ (signing_on r q w key op pa size curve).answer) ×
      ((signing_on r p w key op pa size curve).image ≡ (signing_on r q w key op pa size curve).image)
  unfolding signing_on image_step
  signing-image-unread key curve e =
      let s = signing-unread r p q (lists_in w) key op pa size curve n e in
      (s.0, rw (s.0, signing-done-unread))
