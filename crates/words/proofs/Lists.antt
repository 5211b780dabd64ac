-- Lists of words as bytes, and lists one after another. Assumes nothing.
use Prim.Native.Nat.{ℕ, zero, suc, ◌+◌, ◌*◌, ◌/◌, ◌^◌, ◌≤◌, ◌<◌}
use mathlib.Core.Path.{◌≡◌, refl}
use mathlib.Core.List.{List, [], ◌∷◌, ◌++◌, append_assoc}
use native.Mathlib.Omega.{arith}
use native.Mathlib.Decide.{dec_lt}
use native.Mathlib.Nat.{not-suc-le-zero}
use lib.ListN.{length, take, drop, get_or, length-append, length-drop}
use lib.Seq.{take-nil, drop-nil, drop-drop, take-add, take_at, drop_at, take-append_seam, drop-append_seam, take-append-le, drop-append-le}
use lib.Seq.{get_or-take, get_or-drop}
use lib.Dec.{lit≤}
use borrow.Author.Tests.{ltb-true, lt-ltb}
use Rattle.words.specs.Tests.{Yes}
use Rattle.words.specs.Word.{le_of, part, num_at, word_at, u32_at, words_of, bytes_of, are_words, joined}
use Rattle.words.proofs.Tests.{both_l, both_r, both_of}
use Rattle.words.proofs.Read.{le_bytes-length, le_of-le_bytes, le_bytes-split, mul-suc-8}

-- ---- the bytes of a list of words: eight for each word
pub bytes_of-length : (ws : List ℕ) → length (bytes_of ws) ≡ 8 * length ws
unfolding bytes_of
bytes_of-length [] = refl
bytes_of-length (w ∷ ws) = simp (length-append, le_bytes-length, bytes_of-length ws) (omega arith)

pub bytes_of-append : (xs ys : List ℕ) → bytes_of (xs ++ ys) ≡ bytes_of xs ++ bytes_of ys
unfolding bytes_of
bytes_of-append [] ys = refl
bytes_of-append (x ∷ xs) ys = rw (bytes_of-append xs ys, append_assoc)

pub bytes_of-drop : (k : ℕ) (ws : List ℕ) → drop (8 * k) (bytes_of ws) ≡ bytes_of (drop k ws)
unfolding bytes_of
bytes_of-drop zero ws = refl
bytes_of-drop (suc k) [] = drop-nil (8 * suc k)
bytes_of-drop (suc k) (w ∷ ws) = rw (mul-suc-8, ← drop-drop) (simp (drop_at, le_bytes-length) (bytes_of-drop k ws))

pub bytes_of-take : (k : ℕ) (ws : List ℕ) → take (8 * k) (bytes_of ws) ≡ bytes_of (take k ws)
unfolding bytes_of
bytes_of-take zero ws = refl
bytes_of-take (suc k) [] = take-nil (8 * suc k)
bytes_of-take (suc k) (w ∷ ws) = simp (mul-suc-8, take-add, take_at, drop_at, le_bytes-length, bytes_of-take k ws)

-- reading them gives the words back
pub words_of-bytes_of : (ws rest : List ℕ) → Yes (are_words ws) → words_of (length ws) (bytes_of ws ++ rest) ≡ ws
unfolding words_of bytes_of are_words
words_of-bytes_of [] rest h = refl
words_of-bytes_of (w ∷ ws) rest h =
    let l : w < 2 ^ 64 = ltb-true _ _ (both_l _ _ h) in
    simp (append_assoc, take_at, drop_at, le_bytes-length, le_of-le_bytes 8 w l, words_of-bytes_of ws rest (both_r _ _ h))

-- ---- a list of bytes that starts with words
pub word-at : (i : ℕ) (ws rest : List ℕ) → Yes (are_words ws) → i < length ws → word_at (8 * i) (bytes_of ws ++ rest) ≡ get_or ws i 0
unfolding num_at part bytes_of are_words le_of
word-at i [] rest h l = absurd (not-suc-le-zero l)
word-at zero (w ∷ ws) rest h l = simp (append_assoc, take_at, le_bytes-length) (le_of-le_bytes 8 w (ltb-true w (2 ^ 64) (both_l _ _ h)))
word-at (suc i) (w ∷ ws) rest h l =
    rw (mul-suc-8, ← drop-drop) (simp (append_assoc, drop_at, le_bytes-length) (word-at i ws rest (both_r _ _ h) (omega arith)))

-- the n words from index i on, if all are there
pub part_at : (i n : ℕ) (ws rest : List ℕ) → i + n ≤ length ws → part (8 * i) (8 * n) (bytes_of ws ++ rest) ≡ bytes_of (take n (drop i ws))
unfolding part
part_at i n ws rest h =
    rw (
      drop-append-le (8 * i) (bytes_of ws) rest (rw bytes_of-length (omega arith)),
      bytes_of-drop,
      take-append-le (8 * n) (bytes_of (drop i ws)) rest (rw (bytes_of-length, length-drop) (omega arith)),
      bytes_of-take,
    )

-- the halves of a first word that is below 2^32
pub halves : (v : ℕ) (ws rest : List ℕ) → v < 2 ^ 32 → (u32_at 0 (bytes_of (v ∷ ws) ++ rest) ≡ v) × (u32_at 4 (bytes_of (v ∷ ws) ++ rest) ≡ 0)
unfolding num_at part bytes_of
halves v ws rest h =
    let z : v / 256 ^ 4 ≡ 0 = omega arith in (
      rw (le_bytes-split 4 4 v) (simp (append_assoc, take_at, le_bytes-length) (le_of-le_bytes 4 v h)),
      rw (le_bytes-split 4 4 v) (simp (append_assoc, drop_at, take_at, le_bytes-length, z) (le_of-le_bytes 4 0 (lit≤ tt))),
    )

-- ---- lists one after another
-- list k follows the first k lists
pub joined_at : (n : ℕ) (f : ℕ → List ℕ) (rest : List ℕ) (k : ℕ) → k < n →
    take (length (f k)) (drop (length (joined k f)) (joined n f ++ rest)) ≡ f k
unfolding joined
joined_at zero f rest k l = absurd (not-suc-le-zero l)
joined_at (suc n) f rest k l = go (dec_lt k n) (joined_at n f (f n ++ rest) k)
  where
    go : Dec (k < n) → (k < n → take (length (f k)) (drop (length (joined k f)) (joined n f ++ (f n ++ rest))) ≡ f k) →
        take (length (f k)) (drop (length (joined k f)) (joined (suc n) f ++ rest)) ≡ f k
    go (yes a) r = rw append_assoc (r a)
    go (no a) r = rw (append_assoc, (let e : k ≡ n = omega arith in e), drop-append_seam, take-append_seam)

pub joined-get : (n : ℕ) (f : ℕ → List ℕ) (rest : List ℕ) (k j : ℕ) → k < n → j < length (f k) →
    get_or (joined n f ++ rest) (length (joined k f) + j) 0 ≡ get_or (f k) j 0
joined-get n f rest k j h l =
    rw (← get_or-drop, ← get_or-take (length (f k)) (drop (length (joined k f)) (joined n f ++ rest)) j 0 l, joined_at n f rest k h)

-- lists of equal length
pub joined_length : (n m : ℕ) (f : ℕ → List ℕ) → ((k : ℕ) → length (f k) ≡ m) → length (joined n f) ≡ m * n
unfolding joined
joined_length zero m f h = omega arith
joined_length (suc n) m f h = simp (length-append, joined_length n m f h, h n) (omega arith)

-- list k ends within the first n
pub joined-mono : (n : ℕ) (f : ℕ → List ℕ) (k : ℕ) → k < n → length (joined k f) + length (f k) ≤ length (joined n f)
unfolding joined
joined-mono zero f k h = absurd (not-suc-le-zero h)
joined-mono (suc n) f k h = go (dec_lt k n) (joined-mono n f k)
  where
    go : Dec (k < n) → (k < n → length (joined k f) + length (f k) ≤ length (joined n f)) →
        length (joined k f) + length (f k) ≤ length (joined n f ++ f n)
    go (yes a) r = let m = r a in rw length-append (omega arith)
    go (no a) r = rw (length-append, (let e : k ≡ n = omega arith in e)) (omega arith)

-- ---- words below 2^64
pub words-cons : (x : ℕ) (xs : List ℕ) → x < 2 ^ 64 → Yes (are_words xs) → Yes (are_words (x ∷ xs))
unfolding are_words
words-cons x xs h a = both_of _ _ (lt-ltb x (2 ^ 64) h) a

pub words-below : (ws : List ℕ) → ((i : ℕ) → get_or ws i 0 < 2 ^ 64) → Yes (are_words ws)
unfolding are_words
words-below [] h = refl
words-below (w ∷ ws) h = words-cons w ws (h 0) (words-below ws (λ i. h (suc i)))

pub words_append : (xs ys : List ℕ) → Yes (are_words xs) → Yes (are_words ys) → Yes (are_words (xs ++ ys))
unfolding are_words
words_append [] ys a b = b
words_append (x ∷ xs) ys a b = both_of _ _ (both_l _ _ a) (words_append xs ys (both_r _ _ a) b)

pub words-joined : (n : ℕ) (f : ℕ → List ℕ) → ((k : ℕ) → k < n → Yes (are_words (f k))) → Yes (are_words (joined n f))
unfolding joined are_words
words-joined zero f h = refl
words-joined (suc n) f h = words_append (joined n f) (f n) (words-joined n f (λ k l. h k (omega arith))) (h n (omega arith))
