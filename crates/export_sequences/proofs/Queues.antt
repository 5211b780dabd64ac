-- The queue's image after a push, a pull and the signer's step. Assumes nothing.
use Prim.Native.Nat.{ℕ, ◌^◌, ◌≤◌}
use mathlib.Core.Path.{◌≡◌, refl}
use mathlib.Core.List.{List, [], ◌∷◌}
use native.Mathlib.Omega.{arith}
use lib.Dec.{lit≤}
use lib.ListN.{length, drop, length-drop}
use lib.Seq.{length-take-le}
use borrow.Author.Tests.{ltb-false, leb-false, lt-ltb, eq-eqb, le-leb}
use Rattle.words.specs.Tests.{Yes}
use Rattle.words.specs.Word.{part, word_at, u32_at, are_words}
use Rattle.words.proofs.Tests.{both_l, both_r, both_of}
use Rattle.words.proofs.Lists.{words-cons}
use Rattle.codes.specs.declared.Code.TheVariants.{Ok}
use Rattle.codes.proofs.Gates.{fails-ok, unless-ok}
use Rattle.queue.specs.declared.Request.{Request}
use Rattle.queue.specs.Queue.{Signed, Lists, no_request, oldest_request}
use Rattle.request_rules.specs.Push.{request_of, push_code, pushed}
use Rattle.response_rules.specs.Pull.{pulled}
use Rattle.response_rules.specs.Sign.{sign_code, signed_by, signed}
use Rattle.queue_image.specs.Image.{lists_in, request_words, response_words, each, are_bytes, request_fits, response_fits, eight_fit, queue_fits}
use Rattle.queue_image.specs.Sides.{request_side, response_side, row_joined, row_dropped}
use Rattle.queue_image.proofs.Fits.{image-fits, part_bytes, num-below}
use Rattle.queue_image.proofs.Becomes.{Becomes, joins-requests, joins-responses, drops-request, drops-response, and_then}

-- the request in a buffer of at least 80 bytes fits
request-fits : (b : List ℕ) → Yes (are_bytes b) → 80 ≤ length b → Yes (request_fits (request_of b))
unfolding request_fits request_of part are_words
request-fits b a n =
    let l : length (part 32 48 b) ≡ 48 = length-take-le 48 (drop 32 b) (omega (arith, length-drop 32 b)) in
    both_of _ _
    (both_of _ _ (lt-ltb (u32_at 0 b) (2 ^ 64) (omega (arith, num-below 4 0 b a)))
    (both_of _ _ (lt-ltb (word_at 8 b) (2 ^ 64) (num-below 8 8 b a))
    (both_of _ _ (lt-ltb (word_at 16 b) (2 ^ 64) (num-below 8 16 b a))
    (both_of _ _ (lt-ltb (u32_at 24 b) (2 ^ 64) (omega (arith, num-below 4 24 b a))) refl))))
    (both_of _ _ (eq-eqb (length (part 32 48 b)) 48 l) (part_bytes 32 48 b a))

-- the response has the granule and the ticket of the oldest request
oldest-words : (l : List Request) → Yes (each request_fits l) → Yes (are_words ((oldest_request l).granule ∷ (oldest_request l).ticket ∷ []))
unfolding oldest_request no_request each request_fits are_words
oldest-words [] h = words-cons 0 (0 ∷ []) (lit≤ tt) (words-cons 0 [] (lit≤ tt) refl)
oldest-words (r ∷ l) h =
    let w = both_r _ _ (both_l _ _ (both_l _ _ h)) in
    both_of _ _ (both_l _ _ w) (both_of _ _ (both_l _ _ (both_r _ _ w)) refl)

module _ (w : List ℕ) (l : length w ≡ 210) (h : Yes (are_words w)) where
  pub push-becomes : (b : List ℕ) → Yes (are_bytes b) → push_code b (lists_in w) ≡ Ok →
      Becomes w (row_joined request_side (request_words (request_of b)) w) (pushed b (lists_in w))
  unfolding push_code pushed
  push-becomes b a k =
      let n = fails-ok _ _ _ refl k in
      let e = unless-ok _ _ _ refl n.1 in
      let i = unless-ok _ _ _ refl e.1 in
      let f = fails-ok _ _ _ refl i.1 in
      joins-requests w l h (request_of b) (request-fits b a (ltb-false _ _ n.0)) (leb-false _ _ f.0)

  pub pull-becomes : Becomes w (row_dropped response_side w) (pulled (lists_in w))
  unfolding pulled
  pull-becomes = drops-response w l h

  pub sign-becomes : (s : List ℕ) → Yes (are_bytes s) → sign_code (lists_in w) s ≡ Ok →
      Becomes w (row_dropped request_side (row_joined response_side (response_words (signed_by (oldest_request (lists_in w).requests) s)) w))
      (signed (lists_in w) s)
  unfolding sign_code signed signed_by response_fits queue_fits eight_fit
  sign-becomes s a k =
      let n = fails-ok _ _ _ refl k in
      let m = fails-ok _ _ _ refl n.1 in
      let e = fails-ok _ _ _ refl m.1 in
      let f = fails-ok _ _ _ refl e.1 in
      let r : Signed = signed_by (oldest_request (lists_in w).requests) s in
      let y : Yes (response_fits r) =
      both_of _ _ (oldest-words (lists_in w).requests (both_r _ _ (both_l _ _ (image-fits w l h))))
      (both_of _ _ (le-leb (length s) 104 (ltb-false _ _ m.0)) a) in
      let j = joins-responses w l h r y (leb-false _ _ f.0) in
      let v : List ℕ = row_joined response_side (response_words r) w in
      and_then w v (row_dropped request_side v) _ (λ (q : Lists). record { requests = drop 1 q.requests; responses = q.responses }) j
      (drops-request v j.whole j.words)
