-- Any image of words holds a queue that fits. The row of an entry that fits is words, and an image of words stays one under the moves of
-- its sides. Assumes nothing.
use Prim.Native.Nat.{ℕ, zero, suc, ◌+◌, ◌-◌, ◌*◌, ◌/◌, ◌%◌, ◌^◌, ◌≤◌, ◌<◌}
use mathlib.Core.Path.{◌≡◌, refl, ◌∙◌}
use mathlib.Core.Bool.{Bool}
use mathlib.Core.List.{List, [], ◌∷◌, ◌++◌, map}
use native.Mathlib.Omega.{arith}
use lib.Dec.{ltb, lit≤}
use lib.ListN.{length, take, drop, get_or, replicate, length-take, length-drop, length-map}
use lib.Seq.{length-take-le}
use borrow.Author.Tests.{ltb-true, leb-true, lt-ltb, le-leb, eq-eqb}
use Rattle.words.specs.Tests.{Yes}
use Rattle.words.specs.Word.{le_bytes, part, num_at, words_of, bytes_of, are_words, splice}
use Rattle.words.proofs.Tests.{both_l, both_r, both_of}
use Rattle.words.proofs.Lists.{bytes_of-length, words-cons, words_append}
use Rattle.words.proofs.Bytes.{bytes_drop, number-below, words-read}
use Rattle.queue.specs.declared.Request.{Request}
use Rattle.queue.specs.Queue.{Signed, signed_in}
use Rattle.queue_image.specs.Image.{rows, request_in, held_in, response_in, lists_in, request_words, response_words, each, are_bytes}
use Rattle.queue_image.specs.Image.{request_fits, response_fits, eight_fit, queue_fits}
use Rattle.queue_image.specs.Sides.{Side, rows_waiting, rows_in, row_joined, row_dropped}
use Rattle.queue_image.proofs.Rows.{rows-length, mul-more}
use Rattle.queue_image.proofs.Inverse.{each_take, each-drop, byte-below}

-- ---- the bytes of words are bytes
pub each_append : {A : Type 0} (f : A → Bool) (xs ys : List A) → Yes (each f xs) → Yes (each f ys) → Yes (each f (xs ++ ys))
unfolding each
each_append f [] ys a b = b
each_append f (x ∷ xs) ys a b = both_of _ _ (both_l _ _ a) (each_append f xs ys (both_r _ _ a) b)

pub low-bytes : (n x : ℕ) → Yes (are_bytes (le_bytes n x))
unfolding are_bytes each le_bytes
low-bytes zero x = refl
low-bytes (suc n) x = both_of _ _ (lt-ltb (x % 256) 256 (omega arith)) (low-bytes n (x / 256))

bytes-of : (ws : List ℕ) → Yes (are_bytes (bytes_of ws))
unfolding are_bytes each bytes_of
bytes-of [] = refl
bytes-of (w ∷ ws) = each_append _ (le_bytes 8 w) (bytes_of ws) (low-bytes 8 w) (bytes-of ws)

-- ---- each word is below 2^64, and a place past the end reads as 0
is_word : ℕ → Bool
is_word w = ltb w (2 ^ 64)

words-each : (ws : List ℕ) → Yes (are_words ws) → Yes (each is_word ws)
unfolding are_words each is_word
words-each [] h = refl
words-each (w ∷ ws) h = both_of _ _ (both_l _ _ h) (words-each ws (both_r _ _ h))

word_below : (ws : List ℕ) (i : ℕ) → Yes (each is_word ws) → get_or ws i 0 < 2 ^ 64
unfolding each is_word
word_below [] i h = lit≤ tt
word_below (w ∷ ws) zero h = ltb-true w (2 ^ 64) (both_l _ _ h)
word_below (w ∷ ws) (suc i) h = word_below ws i (both_r _ _ h)

two-words : (ws : List ℕ) (i j : ℕ) → Yes (each is_word ws) → Yes (are_words (get_or ws i 0 ∷ get_or ws j 0 ∷ []))
unfolding are_words
two-words ws i j h = words-cons (get_or ws i 0) (get_or ws j 0 ∷ []) (word_below ws i h) (words-cons (get_or ws j 0) [] (word_below ws j h) refl)

-- ---- a row gives a request, or a response, that fits
request-fits : (row : List ℕ) → length row ≡ 10 → Yes (each is_word row) → Yes (request_fits (request_in row))
unfolding request_fits request_in
request-fits row l h =
    let n : length (bytes_of (drop 4 row)) ≡ 48 = bytes_of-length (drop 4 row) ∙ omega (arith, length-drop 4 row) in
    both_of _ _
    (words_append (get_or row 0 0 ∷ get_or row 1 0 ∷ []) (get_or row 2 0 ∷ get_or row 3 0 ∷ []) (two-words row 0 1 h) (two-words row 2 3 h))
    (both_of _ _ (eq-eqb (length (bytes_of (drop 4 row))) 48 n) (bytes-of (drop 4 row)))

response-fits : (row : List ℕ) → length row ≡ 16 → Yes (each is_word row) → Yes (response_fits (response_in row))
unfolding response_fits response_in signed_in held_in are_bytes
response-fits row l h =
    let s : List ℕ = bytes_of (drop 3 row) in
    let n : length s ≡ 104 = bytes_of-length (drop 3 row) ∙ omega (arith, length-drop 3 row) in
    both_of _ _
    (two-words row 0 1 h)
    (both_of _ _ (le-leb (length (take (get_or row 2 0) s)) 104 (omega (arith, length-take (get_or row 2 0) s)))
    (each_take _ (get_or row 2 0) s (bytes-of (drop 3 row))))

-- ---- so do the rows of each side
module _ {A : Type 0} (f : List ℕ → A) (ok : A → Bool) (width : ℕ)
    (one : (row : List ℕ) → length row ≡ width → Yes (each is_word row) → Yes (ok (f row))) where
  rows_fit : (n : ℕ) (v : List ℕ) → width * n ≤ length v → Yes (each is_word v) → Yes (each ok (map f (rows width n v)))
  unfolding rows each
  rows_fit zero v l h = refl
  rows_fit (suc n) v l h =
      let k : width + width * n ≤ length v = rw mul-more at l in
      both_of _ _
      (one (take width v) (length-take-le width v (omega arith)) (each_take is_word width v h))
      (rows_fit n (drop width v) (omega (arith, length-drop width v)) (each-drop is_word width v h))

  side-fits : (n : ℕ) (v : List ℕ) → width * 8 ≤ length v → Yes (each is_word v) → Yes (eight_fit ok (take n (map f (rows width 8 v))))
  unfolding eight_fit
  side-fits n v l h =
      let m : length (map f (rows width 8 v)) ≡ 8 = length-map (rows width 8 v) f ∙ rows-length width 8 v in
      both_of _ _ (le-leb (length (take n (map f (rows width 8 v)))) 8 (omega (arith, length-take n (map f (rows width 8 v)))))
      (each_take ok n (map f (rows width 8 v)) (rows_fit 8 v l h))

pub image-fits : (w : List ℕ) → length w ≡ 210 → Yes (are_words w) → Yes (queue_fits (lists_in w))
unfolding queue_fits lists_in
image-fits w l h =
    let e = words-each w h in
    both_of _ _
    (side-fits request_in request_fits 10 request-fits (get_or w 0 0) (drop 2 w) (omega (arith, length-drop 2 w)) (each-drop is_word 2 w e))
    (side-fits response_in response_fits 16 response-fits (get_or w 1 0) (drop 82 w) (omega (arith, length-drop 82 w))
    (each-drop is_word 82 w e))

-- ---- reading and writing bytes: a part of bytes is bytes, bytes written over bytes are bytes, and a number of n bytes is below 256 ^ n
pub part_bytes : (off n : ℕ) (s : List ℕ) → Yes (are_bytes s) → Yes (are_bytes (part off n s))
unfolding part are_bytes
part_bytes off n s h = each_take _ n (drop off s) (each-drop _ off s h)

splice-each : (f : ℕ → Bool) (off : ℕ) (vs s : List ℕ) → Yes (each f vs) → Yes (each f s) → Yes (each f (splice off vs s))
unfolding splice
splice-each f off vs s a b =
    each_append f (take off s ++ vs) (drop (off + length vs) s) (each_append f (take off s) vs (each_take f off s b) a)
    (each-drop f (off + length vs) s b)

pub splice-bytes : (off : ℕ) (vs s : List ℕ) → Yes (are_bytes vs) → Yes (are_bytes s) → Yes (are_bytes (splice off vs s))
unfolding are_bytes
splice-bytes off vs s a b = splice-each _ off vs s a b

pub num-below : (n off : ℕ) (s : List ℕ) → Yes (are_bytes s) → num_at n off s < 256 ^ n
unfolding num_at part
num-below n off s h = number-below n (drop off s) (bytes_drop off s (byte-below s h))

-- ---- the row of a request that fits, and of a response, is words
zeros-words : (n : ℕ) → Yes (are_words (replicate n 0))
unfolding are_words
zeros-words zero = refl
zeros-words (suc n) = both_of _ _ refl (zeros-words n)

pub request-words : (r : Request) → Yes (request_fits r) → Yes (are_words (request_words r))
unfolding request_words request_fits
request-words r h =
    words_append (r.algorithm ∷ r.granule ∷ r.ticket ∷ r.hashid ∷ []) (words_of 6 r.hash) (both_l _ _ h)
    (words-read 6 r.hash (byte-below r.hash (both_r _ _ (both_r _ _ h))))

pub response-words : (r : Signed) → Yes (response_fits r) → Yes (are_words (response_words r))
unfolding response_words response_fits
response-words r h =
    let n : length r.signature ≤ 104 = leb-true _ _ (both_l _ _ (both_r _ _ h)) in
    words_append (r.granule ∷ r.ticket ∷ []) (length r.signature ∷ words_of 13 r.signature) (both_l _ _ h)
    (words-cons (length r.signature) (words_of 13 r.signature) (omega arith)
    (words-read 13 r.signature (byte-below r.signature (both_r _ _ (both_r _ _ h)))))

-- ---- an image of words stays one under the moves of its sides
each-words : (ws : List ℕ) → Yes (each is_word ws) → Yes (are_words ws)
unfolding are_words each is_word
each-words [] h = refl
each-words (w ∷ ws) h = both_of _ _ (both_l _ _ h) (each-words ws (both_r _ _ h))

splice-words : (off : ℕ) (vs s : List ℕ) → Yes (are_words vs) → Yes (are_words s) → Yes (are_words (splice off vs s))
splice-words off vs s a b = each-words (splice off vs s) (splice-each is_word off vs s (words-each vs a) (words-each s b))

module _ (s : Side) (w : List ℕ) (h : Yes (are_words w)) where
  pub joined_words : (row : List ℕ) → Yes (are_words row) → Yes (are_words (row_joined s row w))
  unfolding row_joined rows_waiting are_words
  joined_words row a =
      splice-words s.number _ _ (words-cons (suc (rows_waiting s w)) [] (omega arith) refl)
      (splice-words (s.start + s.width * rows_waiting s w) row w a h)

  pub dropped-words : Yes (are_words (row_dropped s w))
  unfolding row_dropped rows_waiting rows_in part are_words
  dropped-words =
      let t : List ℕ = part s.start (s.width * rows_waiting s w) w in
      let r : Yes (each is_word (drop s.width t)) = each-drop is_word s.width t
      (each_take is_word (s.width * rows_waiting s w) (drop s.start w) (each-drop is_word s.start w (words-each w h))) in
      splice-words s.number _ _ (words-cons (rows_waiting s w - 1) [] (omega arith) refl)
      (splice-words s.start (drop s.width t ++ replicate s.width 0) w
      (words_append (drop s.width t) (replicate s.width 0) (each-words _ r) (zeros-words s.width)) h)
