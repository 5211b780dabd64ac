-- The laws of big-endian numbers, for every width. Assumes nothing.
use Prim.Native.Nat.{ℕ, zero, suc, ◌+◌, ◌*◌, ◌^◌, ◌≤◌, ◌<◌}
use mathlib.Core.Path.{◌≡◌, refl, ap, ◌∙◌}
use mathlib.Core.List.{List, [], ◌∷◌, ◌++◌, reverse, reverse-cons, reverse-append, reverse-reverse}
use native.Mathlib.Nat.{div-div-eq-div-mul, add-zero, add-suc, add_assoc, mul_assoc, pow-suc}
use native.Mathlib.Omega.{arith}
use borrow.Author.Tests.{le-leb, lt-leb}
use lib.ListN.{length, take, drop, get_or, length-drop, length-reverse}
use lib.Seq.{take-suc, take_at, drop_at, get_or-drop, get_or-take}
use Rattle.std.specs.Int.{w32, from_be_bytes, to_be_bytes}
use Rattle.words.specs.Word.{le_of, le_bytes, part, splice, laid}
use Rattle.words.proofs.Read.{le_bytes-length, le_of-le_bytes}
use Rattle.words.proofs.Store.{bytes-in}
use Rattle.big_words.specs.Big.{be_of, be_bytes, big_at}
use Rattle.big_words.specs.Fast.{whole_big}

pub be-length : (n x : ℕ) → length (be_bytes n x) ≡ n
unfolding be_bytes
be-length n x = length-reverse (le_bytes n x) ∙ le_bytes-length n x

-- the bytes of a number read back
pub be-back : (n x : ℕ) → x < 256 ^ n → be_of (be_bytes n x) ≡ x
unfolding be_of be_bytes
be-back n x h = ap le_of (reverse-reverse (le_bytes n x)) ∙ le_of-le_bytes n x h

-- the last byte is the lowest
pub be-snoc : (bs : List ℕ) (b : ℕ) → be_of (bs ++ (b ∷ [])) ≡ b + 256 * be_of bs
unfolding be_of le_of
be-snoc bs b = ap le_of (reverse-append bs (b ∷ []))

-- ---- a number read byte by byte
pub big-zero : (off : ℕ) (s : List ℕ) → big_at 0 off s ≡ 0
unfolding big_at part be_of le_of
big-zero off s = refl

pub big-suc : (n off : ℕ) (s : List ℕ) → off + n < length s → big_at (suc n) off s ≡ get_or s (off + n) 0 + 256 * big_at n off s
unfolding big_at part
big-suc n off s h =
    rw (take-suc (drop off s) n 0 (rw length-drop (omega arith)), get_or-drop) (be-snoc (take n (drop off s)) (get_or s (off + n) 0))

pub big-one : (off : ℕ) (s : List ℕ) → off < length s → big_at 1 off s ≡ get_or s off 0
big-one off s h = let e : get_or s (off + 0) 0 ≡ get_or s off 0 = rw add-zero in omega (arith, big-suc 0 off s (omega arith), big-zero off s)

-- two numbers next to each other are one
pub big-add : (m n off : ℕ) (s : List ℕ) → off + (m + n) ≤ length s → big_at (m + n) off s ≡ big_at m off s * 256 ^ n + big_at n (off + m) s
big-add m zero off s h = rw add-zero (omega (arith, big-zero (off + m) s))
big-add m (suc n) off s h =
    rw (add-suc, big-suc (m + n) off s (omega arith), big-suc n (off + m) s (omega arith), pow-suc, add_assoc)
    (omega (arith, big-add m n off s (omega arith), mul_assoc (big_at m off s) (256 ^ n) 256))

-- ---- the number that std reads from the bytes at an offset, and the bytes that it writes of a number
pub big-chunk : (off : ℕ) (bs s : List ℕ) → off + 4 ≤ length s → bs ≡ part off 4 s → {x : ℕ} → x ≡ from_be_bytes w32 bs → x ≡ big_at 4 off s
unfolding part
big-chunk off bs s l e {x} h =
    let byte-of : (i : ℕ) → i < 4 → get_or (take 4 (drop off s)) i 0 ≡ get_or s (off + i) 0 = λ i k. simp (get_or-take, get_or-drop) in
    let g : (i : ℕ) → i < 4 → get_or bs i 0 ≡ get_or s (off + i) 0 = λ i k. rw e (byte-of i k) in
    omega (
      arith,
      h,
      g 0 (omega arith),
      g 1 (omega arith),
      g 2 (omega arith),
      g 3 (omega arith),
      big-zero off s,
      big-suc 0 off s (omega arith),
      big-suc 1 off s (omega arith),
      big-suc 2 off s (omega arith),
      big-suc 3 off s (omega arith),
    )

pub bytes-of : (w : ℕ) → to_be_bytes w32 w ≡ be_bytes 4 w
unfolding be_bytes le_bytes
bytes-of w = simp div-div-eq-div-mul refl

-- the usual sum: the first of n bytes counts 256 ^ (n - 1), and the other bytes follow
le-snoc : (bs : List ℕ) (b : ℕ) → le_of (bs ++ (b ∷ [])) ≡ le_of bs + b * 256 ^ length bs
unfolding le_of
le-snoc [] b = omega arith
le-snoc (x ∷ xs) b = rw (le-snoc xs b, pow-suc) (omega (arith, mul_assoc b (256 ^ length xs) 256))

pub be-cons : (b : ℕ) (bs : List ℕ) → be_of (b ∷ bs) ≡ b * 256 ^ length bs + be_of bs
unfolding be_of
be-cons b bs = rw (reverse-cons b bs, le-snoc (reverse bs) b, length-reverse) (omega arith)

-- a number that follows other bytes reads back
pub big-behind : (n x off : ℕ) (pre rest : List ℕ) → length pre ≡ off → x < 256 ^ n → big_at n off (pre ++ (be_bytes n x ++ rest)) ≡ x
unfolding big_at part
big-behind n x off pre rest e h = rw (drop_at pre (be_bytes n x ++ rest) off e, take_at (be_bytes n x) rest n (be-length n x)) (be-back n x h)

-- ---- within the slice and past its end
pub whole_in : (off : ℕ) (s : List ℕ) → off + 4 ≤ length s → whole_big off s ≡ big_at 4 off s
unfolding whole_big
whole_in off s h = rw (le-leb (off + 4) (length s) h)

pub whole_out : (off : ℕ) (s : List ℕ) → length s < off + 4 → whole_big off s ≡ 0
unfolding whole_big
whole_out off s h = rw (lt-leb (off + 4) (length s) h)

pub big-in : (n at w : ℕ) (s : List ℕ) → at + n ≤ length s → laid at (be_bytes n w) s ≡ splice at (be_bytes n w) s
big-in n at w s h = bytes-in at (be_bytes n w) s (rw (be-length n w) h)
