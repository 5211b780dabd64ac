-- Requests and responses as rows of words. Assumes nothing.
use Prim.Native.Nat.{ℕ, zero, suc, min, ◌<◌}
use mathlib.Core.Path.{◌≡◌, refl, sym, ap, ◌∙◌}
use mathlib.Core.List.{List, [], ◌∷◌, map}
use native.Mathlib.Omega.{arith}
use lib.ListN.{length, take, drop, get_or, replicate, length-map, length-take}
use Rattle.words.specs.Word.{part, splice}
use Rattle.words.proofs.Read.{words_of-length}
use Rattle.words.proofs.Store.{bytes-in, laid-all}
use Rattle.queue.specs.declared.Request.{Request}
use Rattle.queue.specs.Queue.{Signed, waiting, waiting_signed, signed_in, lists_of, oldest_request}
use Rattle.queue_image.specs.Image.{rows, request_in, held_in, response_in, lists_in, queue_in, request_words, response_words, oldest_words}
use Rattle.queue_image.proofs.Rows.{rows-length}

pub request-wide : (r : Request) → length (request_words r) ≡ 10
unfolding request_words
request-wide r = rw (words_of-length 6 r.hash)

pub response-wide : (r : Signed) → length (response_words r) ≡ 16
unfolding response_words
response-wide r = rw (words_of-length 13 r.signature)

-- ---- the responses, as lists
held-taken : (n : ℕ) (l : List (List ℕ)) → map signed_in (take n (map held_in l)) ≡ take n (map response_in l)
unfolding response_in
held-taken zero l = refl
held-taken (suc n) [] = refl
held-taken (suc n) (x ∷ l) = ap (λ t. signed_in (held_in x) ∷ t) (held-taken n l)

-- the queue of an image, by value and as lists
pub lists-in : (w : List ℕ) → lists_of (queue_in w) ≡ lists_in w
unfolding lists_of waiting waiting_signed queue_in lists_in
lists-in w = rw held-taken

-- ---- the oldest request
pub oldest-first : (l : List Request) (r : Request) → 0 < length l → r ≡ oldest_request l →
    splice 0 (request_words r) (replicate 10 0) ≡ oldest_words l
unfolding oldest_words oldest_request
oldest-first [] r h e = absurd (omega arith)
oldest-first (x ∷ l) r h e =
    let n : length (request_words r) ≡ 10 = request-wide r in
    sym (bytes-in 0 (request_words r) (replicate 10 0) (omega arith)) ∙ laid-all (request_words r) (replicate 10 0) n ∙ ap request_words e

-- ---- of an image
module _ (w : List ℕ) where
  module _ {A : Type 0} (f : List ℕ → A) (width n at : ℕ) where
    eight-rows : length (map f (rows width 8 (drop at w))) ≡ 8
    eight-rows = simp (length-map, rows-length)

    -- `number` entries, at most eight
    pub waits : min 8 n ≡ length (take n (map f (rows width 8 (drop at w))))
    waits = omega (arith, length-take n (map f (rows width 8 (drop at w))), eight-rows)

  pub no-request : get_or w 0 0 ≡ 0 → replicate 10 0 ≡ oldest_words (lists_in w).requests
  unfolding lists_in oldest_words
  no-request h = rw h

  first-row : (n : ℕ) → (n ≡ 0 → ⊥) → splice 0 (request_words (request_in (part 2 10 w))) (replicate 10 0) ≡ oldest_words
      (take n (map request_in (rows 10 8 (drop 2 w))))
  unfolding rows part oldest_request
  first-row zero h = absurd (h refl)
  first-row (suc n) h = oldest-first (take (suc n) (map request_in (rows 10 8 (drop 2 w)))) (request_in (part 2 10 w)) (omega arith) refl

  pub a-request : (get_or w 0 0 ≡ 0 → ⊥) → splice 0 (request_words (request_in (part 2 10 w))) (replicate 10 0) ≡ oldest_words
      (lists_in w).requests
  unfolding lists_in
  a-request h = first-row (get_or w 0 0) h
