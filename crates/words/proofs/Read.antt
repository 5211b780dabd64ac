-- Laws of a number in bytes, stated once for every width. Assumes nothing.
use Prim.Native.Nat.{ℕ, zero, suc, ◌+◌, ◌-◌, ◌*◌, ◌/◌, ◌^◌, ◌≤◌, ◌<◌}
use mathlib.Core.Path.{◌≡◌, refl, sym, ap, ◌∙◌}
use mathlib.Core.List.{List, [], ◌∷◌, ◌++◌}
use native.Mathlib.Nat.{pow-suc, add-suc, suc-add, add-zero, zero-add, mul_assoc, mul_left_comm, div-one}
use native.Mathlib.Nat.{div-div-eq-div-mul, mul_comm, not-suc-le-zero}
use native.Mathlib.Numerals.{add-one}
use native.Mathlib.Omega.{arith}
use lib.ListN.{length, take, drop, get_or, length-take, length-drop, drop_of_length-le}
use lib.Seq.{length-take-le, take-nil, take_all, drop-drop, ext_get_or, get_or-take, get_or-drop}
use borrow.Author.Tests.{le-leb}
use Rattle.words.specs.Word.{le_of, le_bytes, part, num_at, word_at, words_of}
use Rattle.words.specs.Fast.{whole_word}
use Rattle.std.specs.Int.{w64, to_le_bytes, byte_worth, sum_through}
use Rattle.std.specs.List.{slice_index}

pub num-zero : (off : ℕ) (s : List ℕ) → num_at 0 off s ≡ 0
unfolding num_at part le_of
num-zero off s = refl

pub num-suc : (n off : ℕ) (s : List ℕ) → num_at (suc n) off s ≡ get_or s off 0 + 256 * num_at n (suc off) s
unfolding num_at part le_of
num-suc n zero [] = rw take-nil
num-suc n (suc i) [] = rw take-nil
num-suc n zero (x ∷ xs) = refl
num-suc n (suc i) (x ∷ xs) = num-suc n i xs

pub num-one : (off : ℕ) (s : List ℕ) → num_at 1 off s ≡ get_or s off 0
num-one off s = omega (arith, num-suc 0 off s, num-zero (suc off) s)

-- two adjacent numbers are one number
pub num-add : (m n off : ℕ) (s : List ℕ) → num_at (m + n) off s ≡ num_at m off s + 256 ^ m * num_at n (off + m) s
num-add zero n off s = rw (zero-add, add-zero) (omega (arith, num-zero off s))
num-add (suc m) n off s =
    rw (suc-add, num-suc, num-suc, pow-suc, add-suc, ← suc-add)
    (omega (
      arith,
      num-add m n (suc off) s,
      mul_assoc (256 ^ m) 256 (num_at n (suc off + m) s),
      mul_left_comm (256 ^ m) 256 (num_at n (suc off + m) s),
    ))

-- a number past the end is 0
pub num-out : (n off : ℕ) (s : List ℕ) → length s ≤ off → num_at n off s ≡ 0
unfolding num_at part le_of
num-out n off s h = rw (drop_of_length-le s h, take-nil)

-- ---- the bytes of a number
pub le_bytes-length : (n x : ℕ) → length (le_bytes n x) ≡ n
unfolding le_bytes
le_bytes-length zero x = refl
le_bytes-length (suc n) x = ap suc (le_bytes-length n (x / 256))

-- reading them gives the number back
pub le_of-le_bytes : (n x : ℕ) → x < 256 ^ n → le_of (le_bytes n x) ≡ x
unfolding le_bytes le_of
le_of-le_bytes zero x h = omega arith
le_of-le_bytes (suc n) x h = rw (le_of-le_bytes n (x / 256) (omega arith)) (omega arith)

-- low bytes, then high bytes
pub le_bytes-split : (m n x : ℕ) → le_bytes (m + n) x ≡ le_bytes m x ++ le_bytes n (x / 256 ^ m)
unfolding le_bytes
le_bytes-split zero n x = rw (zero-add, div-one)
le_bytes-split (suc m) n x = rw (suc-add, le_bytes-split m n (x / 256), div-div-eq-div-mul, pow-suc, mul_comm 256 (256 ^ m))

-- the number made by all bytes from i on
pub num-rest : (n i : ℕ) (s : List ℕ) → length s ≤ i + n → le_of (drop i s) ≡ num_at n i s
unfolding num_at part
num-rest n i s h = ap le_of (sym (take_all n (drop i s) (omega (arith, length-drop i s))))

-- two widths that both reach the end of the list give the same number
pub num-short : (m n i : ℕ) (s : List ℕ) → length s ≤ i + m → length s ≤ i + n → num_at m i s ≡ num_at n i s
num-short m n i s h k = sym (num-rest m i s h) ∙ num-rest n i s k

-- ---- numbers in a part of a list, and lists of words
-- a number in a part is a number in the whole
pub num-part : (w off n j : ℕ) (s : List ℕ) → j + w ≤ n → num_at w j (part off n s) ≡ num_at w (off + j) s
unfolding num_at part
num-part w off n j s h =
    ap le_of (ext_get_or 0 (take w (drop j (take n (drop off s)))) (take w (drop (off + j) s))
    (simp (length-take, length-drop) (omega arith)) (λ i l.
    let k : i < w = omega (arith, simp length-take at l) in
    let m : j + i < n = omega arith in
    simp (get_or-take, get_or-drop) (ap (λ x. get_or s x 0) (let e : off + (j + i) ≡ (off + j) + i = omega arith in e))))

-- a whole word in the lent part of n bytes from an offset on
pub word-lent : (from n j off : ℕ) (s : List ℕ) → from + n ≤ length s → j + 8 ≤ n → off ≡ from + j →
    whole_word j (take (from + n - from) (drop from s)) ≡ word_at off s
unfolding whole_word part
word-lent from n j off s l h e =
    let z : from + n - from ≡ n = omega arith in
    let m : length (take n (drop from s)) ≡ n = length-take-le n (drop from s) (omega (arith, length-drop from s)) in
    rw (z, le-leb (j + 8) (length (take n (drop from s))) (omega arith), e) (num-part 8 from n j s h)

pub mul-suc-8 : (k : ℕ) → 8 * suc k ≡ 8 + 8 * k
mul-suc-8 k = omega arith

pub words_of-at : (n : ℕ) (bs : List ℕ) (j : ℕ) → j < n → get_or (words_of n bs) j 0 ≡ word_at (8 * j) bs
unfolding words_of num_at part
words_of-at zero bs j h = absurd (not-suc-le-zero h)
words_of-at (suc n) bs zero h = refl
words_of-at (suc n) bs (suc j) h = rw (mul-suc-8, ← drop-drop) (words_of-at n (drop 8 bs) j (omega arith))

pub words_of-length : (n : ℕ) (bs : List ℕ) → length (words_of n bs) ≡ n
unfolding words_of
words_of-length zero bs = refl
words_of-length (suc n) bs = ap suc (words_of-length n (drop 8 bs))

-- one more word
pub words_of-suc : (n : ℕ) (bs : List ℕ) → words_of (suc n) bs ≡ words_of n bs ++ (word_at (8 * n) bs ∷ [])
unfolding words_of num_at part
words_of-suc zero bs = refl
words_of-suc (suc n) bs = rw (mul-suc-8, ← drop-drop) (ap {B = List ℕ} (λ t. le_of (take 8 bs) ∷ t) (words_of-suc n (drop 8 bs)))

-- the parts of two lists that have the same bytes there
pub part_same : (off n : ℕ) (p q : List ℕ) → length p ≡ length q → ((i : ℕ) → off ≤ i → i < off + n → get_or p i 0 ≡ get_or q i 0) →
    part off n p ≡ part off n q
unfolding part
part_same off n p q l h =
    ext_get_or 0 (take n (drop off p)) (take n (drop off q)) (simp (length-take, length-drop, l)) (λ i k.
    let j : i < n = omega (arith, simp (length-take, length-drop) at k) in
    simp (get_or-take, get_or-drop) (h (off + i) (omega arith) (omega arith)))

-- ---- the number that std reads from the bytes at an offset, and the bytes that it writes of a number
num-worth : (n : ℕ) (bs : List ℕ) → sum_through (λ i. byte_worth i (slice_index bs i)) n ≡ num_at (suc n) 0 bs
num-worth zero bs = sym (num-one 0 bs)
num-worth (suc n) bs =
    rw (num-worth n bs, mul_comm (get_or bs (suc n) 0) (256 ^ suc n))
    (let e = num-add (suc n) 1 0 bs in rw (zero-add, num-one (suc n) bs, add-one) at (sym e))

pub num-chunk : (n off : ℕ) (bs s : List ℕ) → bs ≡ part off (suc n) s → {x : ℕ} → x ≡ sum_through (λ i. byte_worth i (slice_index bs i)) n →
    x ≡ num_at (suc n) off s
num-chunk n off bs s e h =
    h ∙ num-worth n bs ∙ rw e (num-part (suc n) off (suc n) 0 s (omega arith)) ∙ ap (λ i. num_at (suc n) i s) (add-zero off)

pub bytes-of_2 : (w : ℕ) → take 2 (to_le_bytes w64 w) ≡ le_bytes 2 w
unfolding le_bytes
bytes-of_2 w = refl

pub bytes-of_4 : (w : ℕ) → take 4 (to_le_bytes w64 w) ≡ le_bytes 4 w
unfolding le_bytes
bytes-of_4 w = simp div-div-eq-div-mul refl

pub bytes-of_8 : (w : ℕ) → to_le_bytes w64 w ≡ le_bytes 8 w
unfolding le_bytes
bytes-of_8 w = simp div-div-eq-div-mul refl
