-- Reading an image as a queue and writing a queue as an image are inverse to each other. Assumes nothing.
use Prim.Native.Nat.{ℕ, zero, suc, ◌+◌, ◌-◌, ◌*◌, ◌≤◌}
use mathlib.Core.Path.{◌≡◌, refl, ap}
use mathlib.Core.Bool.{Bool}
use mathlib.Core.List.{List, [], ◌∷◌, ◌++◌, append_assoc, append-nil, map}
use native.Mathlib.Nat.{zero-add, suc-add, sub-zero, suc-sub-suc}
use native.Mathlib.Omega.{arith}
use lib.ListN.{length, get_or, take, drop, replicate, replicate-append-replicate, length-take, length-drop}
use lib.Seq.{take_at, drop_at, take-append_seam}
use lib.Dec.{lit≤}
use borrow.Author.Tests.{ltb-true, leb-true, eqb-true}
use Rattle.words.specs.Tests.{Yes}
use Rattle.words.specs.Word.{words_of, bytes_of}
use Rattle.words.proofs.Tests.{both_l, both_r, both_of}
use Rattle.words.proofs.Bytes.{Bytes, number-padded}
use Rattle.words.proofs.Read.{mul-suc-8}
use Rattle.queue.specs.declared.Request.{Request}
use Rattle.queue.specs.Queue.{Signed, Lists, signed_in}
use Rattle.queue_image.specs.Image.{rows, request_in, held_in, response_in, lists_in, request_words, response_words, oldest_words}
use Rattle.queue_image.specs.Image.{flat, padded, queue_words, are_bytes, request_fits, response_fits, each, eight_fit, queue_fits}
use Rattle.queue_image.proofs.Rows.{flat-length, padded-length}
use Rattle.queue_image.proofs.Sides.{request-wide, response-wide}

-- ---- a property of each entry holds of each entry of a part
module _ {A : Type 0} (f : A → Bool) where
  pub each_take : (k : ℕ) (l : List A) → Yes (each f l) → Yes (each f (take k l))
  unfolding each
  each_take zero l h = refl
  each_take (suc k) [] h = refl
  each_take (suc k) (x ∷ l) h = both_of _ _ (both_l _ _ h) (each_take k l (both_r _ _ h))

  pub each-drop : (k : ℕ) (l : List A) → Yes (each f l) → Yes (each f (drop k l))
  unfolding each
  each-drop zero l h = h
  each-drop (suc k) [] h = refl
  each-drop (suc k) (x ∷ l) h = each-drop k l (both_r _ _ h)

-- ---- bytes are read back from their words, with zeros to the end of the last word
pub byte-below : (bs : List ℕ) → Yes (are_bytes bs) → Bytes bs
unfolding are_bytes each
byte-below [] h i = lit≤ tt
byte-below (b ∷ bs) h zero = ltb-true b 256 (both_l _ _ h)
byte-below (b ∷ bs) h (suc i) = byte-below bs (both_r _ _ h) i

padded-split : (k n : ℕ) (l : List ℕ) → padded k (take k l) ++ padded n (drop k l) ≡ padded (k + n) l
unfolding padded
padded-split zero n l = rw zero-add
padded-split (suc k) n [] = simp sub-zero (replicate-append-replicate (suc k) n 0)
padded-split (suc k) n (x ∷ l) = rw (suc-add, suc-sub-suc, suc-sub-suc) (ap (λ (t : List ℕ). x ∷ t) (padded-split k n l))

bytes_back : (n : ℕ) (bs : List ℕ) → length bs ≤ 8 * n → Yes (are_bytes bs) → bytes_of (words_of n bs) ≡ padded (8 * n) bs
unfolding words_of bytes_of padded are_bytes
bytes_back zero [] h a = refl
bytes_back zero (b ∷ bs) h a = absurd (omega arith)
bytes_back (suc n) bs h a =
    rw (
      number-padded 8 (take 8 bs) (byte-below (take 8 bs) (each_take _ 8 bs a)) (omega (arith, length-take 8 bs)),
      bytes_back n (drop 8 bs) (omega (arith, length-drop 8 bs)) (each-drop _ 8 bs a),
      mul-suc-8,
    )
    (padded-split 8 (8 * n) bs)

padded-full : (n : ℕ) (l : List ℕ) → length l ≡ n → padded n l ≡ l
unfolding padded
padded-full n l e = rw (let z : n - length l ≡ 0 = omega arith in z) (append-nil l)

-- ---- a request and a response are read back from their rows
pub request-back : (r : Request) → Yes (request_fits r) → request_in (request_words r) ≡ r
unfolding request_in request_words request_fits
request-back r h =
    let l : length r.hash ≡ 48 = eqb-true _ _ (both_l _ _ (both_r _ _ h)) in
    rw (bytes_back 6 r.hash (omega arith) (both_r _ _ (both_r _ _ h)), padded-full 48 r.hash l)

pub response-back : (r : Signed) → Yes (response_fits r) → response_in (response_words r) ≡ r
unfolding response_in signed_in held_in response_words response_fits padded
response-back r h =
    let l : length r.signature ≤ 104 = leb-true _ _ (both_l _ _ (both_r _ _ h)) in
    rw (bytes_back 13 r.signature (omega arith) (both_r _ _ (both_r _ _ h)), take-append_seam)

-- the words of the oldest request give each of its fields; zeros if no request waits
pub oldest-told : (r : Request) (l : List Request) → Yes (request_fits r) → request_in (oldest_words (r ∷ l)) ≡ r
unfolding oldest_words
oldest-told r l h = request-back r h

pub oldest-read : (r : Request) (l : List Request) →
    (get_or (oldest_words (r ∷ l)) 0 0 ≡ r.algorithm) × (get_or (oldest_words (r ∷ l)) 1 0 ≡ r.granule) ×
    (get_or (oldest_words (r ∷ l)) 2 0 ≡ r.ticket) × (get_or (oldest_words (r ∷ l)) 3 0 ≡ r.hashid)
unfolding oldest_words request_words
oldest-read r l = (refl, refl, refl, refl)

pub oldest-hash : (r : Request) (l : List Request) → Yes (request_fits r) → bytes_of (drop 4 (oldest_words (r ∷ l))) ≡ r.hash
unfolding request_in
oldest-hash r l h = ap (λ (x : Request). x.hash) (oldest-told r l h)

pub oldest-none : oldest_words [] ≡ replicate 10 0
unfolding oldest_words
oldest-none = refl

-- ---- a side is read back from its rows, for any words after them
module _ {A : Type 0} (f : List ℕ → A) (g : A → List ℕ) (ok : A → Bool) (width : ℕ) (wide : (x : A) → length (g x) ≡ width)
    (back : (x : A) → Yes (ok x) → f (g x) ≡ x) where
  rows_back : (n : ℕ) (l : List A) (rest : List ℕ) → Yes (each ok l) → length l ≤ n →
      take (length l) (map f (rows width n (flat g l ++ rest))) ≡ l
  unfolding rows flat each
  rows_back n [] rest h k = refl
  rows_back zero (x ∷ l) rest h k = absurd (omega arith)
  rows_back (suc n) (x ∷ l) rest h k =
      rw (
        append_assoc,
        take_at (g x) (flat g l ++ rest) width (wide x),
        drop_at (g x) (flat g l ++ rest) width (wide x),
        back x (both_l _ _ h),
        rows_back n l rest (both_r _ _ h) (omega arith),
      )

  side-back : (n : ℕ) (l : List A) (rest : List ℕ) → Yes (eight_fit ok l) →
      take (length l) (map f (rows width 8 (padded n (flat g l) ++ rest))) ≡ l
  unfolding eight_fit padded
  side-back n l rest h = rw append_assoc (rows_back 8 l _ (both_r _ _ h) (leb-true _ _ (both_l _ _ h)))

-- ---- a queue is read back from its image
pub queue-back : (q : Lists) → Yes (queue_fits q) → lists_in (queue_words q) ≡ q
unfolding lists_in queue_words queue_fits eight_fit
queue-back q h =
    let a : List Request = q.requests in
    let b : List Signed = q.responses in
    let p : List ℕ = padded 128 (flat response_words b) in
    let eight : length a ≤ 8 = leb-true (length a) 8 (both_l _ _ (both_l _ _ h)) in
    let front : length (padded 80 (flat request_words a)) ≡ 80 = padded-length 80 (flat request_words a)
    (omega (arith, flat-length request_words 10 request-wide a)) in
    rw (
      side-back request_in request_words request_fits 10 request-wide request-back 80 a p (both_l _ _ h),
      drop_at (padded 80 (flat request_words a)) p 80 front,
      rw append-nil at (side-back response_in response_words response_fits 16 response-wide response-back 128 b [] (both_r _ _ h)),
    )

-- and an image of a queue is written back from its queue
pub queue-again : (w : List ℕ) (q : Lists) → w ≡ queue_words q → Yes (queue_fits q) → queue_words (lists_in w) ≡ w
queue-again w q e h = rw (e, queue-back q h)

-- ---- zeros are the image of the empty queue
pub zeros-in : lists_in (replicate 210 0) ≡ record { requests = []; responses = [] }
unfolding lists_in
zeros-in = refl

pub zeros-out : queue_words (record { requests = []; responses = [] }) ≡ replicate 210 0
unfolding queue_words flat padded
zeros-out = refl
