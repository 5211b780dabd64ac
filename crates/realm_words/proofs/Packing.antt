-- The words of a table, and the bit of each granule in them. Assumes nothing.
use Prim.Native.Nat.{ℕ, zero, suc, ◌+◌, ◌-◌, ◌*◌, ◌/◌, ◌%◌, ◌^◌, ◌≤◌, ◌<◌}
use mathlib.Core.Path.{◌≡◌, refl, sym, ap, ◌∙◌}
use mathlib.Core.Bool.{Bool, true, false, cond}
use mathlib.Core.List.{List, [], ◌∷◌, ◌++◌}
use native.Mathlib.Omega.{arith}
use native.Mathlib.Nat.{zero-div, mul_assoc, mul_comm, pow-suc, not-suc-le-zero}
use lib.ListN.{length, get_or, take, drop, length-drop}
use lib.Seq.{length-take-le, take-add, take_all, drop-cons, drop-drop, drop-length, get_or-take, get_or-drop}
use lib.Dec.{eqb}
use lib.Pow.{pow_mono}
use Rattle.realm_words.specs.Bits.{bit_of, bit_at, realm_bit, packed, packed_to, words_for, realm_words}
use Rattle.realm_words.proofs.Bits.{bit-zero, bit-suc}

-- ---- one word
pub realm-le : (b : ℕ) → realm_bit b ≤ 1
unfolding realm_bit
realm-le b = go (eqb b 1)
  where
    go : (k : Bool) → cond k 1 0 ≤ 1
    go true = omega arith
    go false = omega arith

pub packed_lt : (t : List ℕ) → packed t < 2 ^ length t
unfolding packed
packed_lt [] = omega arith
packed_lt (b ∷ t) = omega (arith, realm-le b, packed_lt t, pow-suc 2 (length t))

-- there is room for one more bit
pub packed-room : (t : List ℕ) (i : ℕ) → 0 < i → i ≤ length t → length t ≤ 64 → 2 * packed (drop i t) + 1 < 2 ^ 64
packed-room t i p h l =
    let d : length (drop i t) ≤ 63 = rw length-drop (omega arith) in
    omega (arith, packed_lt (drop i t), pow_mono d)

pub packed_none : (t : List ℕ) → 0 ≡ packed (drop (length t) t)
unfolding packed
packed_none t = rw drop-length

pub packed_more : (t : List ℕ) (i b bits : ℕ) → 0 < i → i ≤ length t → b ≡ realm_bit (get_or t (i - 1) 0) → bits ≡ packed (drop i t) →
    b + 2 * bits ≡ packed (drop (i - 1) t)
unfolding packed
packed_more t i b bits p h e f =
    let s : suc (i - 1) ≡ i = omega arith in
    let d : drop (i - 1) t ≡ get_or t (i - 1) 0 ∷ drop i t = drop-cons t (i - 1) 0 (omega arith) ∙ ap (λ x. get_or t (i - 1) 0 ∷ drop x t) s in
    rw (d, e, f)

-- eight bytes, and those after them
packed-append : (xs ys : List ℕ) → packed (xs ++ ys) ≡ packed xs + 2 ^ length xs * packed ys
unfolding packed
packed-append [] ys = omega arith
packed-append (x ∷ xs) ys =
    let e : 2 ^ suc (length xs) * packed ys ≡ 2 * (2 ^ length xs * packed ys) = rw (pow-suc 2 (length xs), mul_comm (2 ^ length xs) 2)
    (mul_assoc 2 (2 ^ length xs) (packed ys)) in
    rw (packed-append xs ys, e) (omega arith)

octet-more : (n i j : ℕ) (t : List ℕ) → j ≡ i + 8 → i + 8 ≤ length t →
    packed (take (8 + n) (drop i t)) ≡ packed (take 8 (drop i t)) + 0x100 * packed (take n (drop j t))
octet-more n i j t e h =
    let l : length (take 8 (drop i t)) ≡ 8 = length-take-le 8 (drop i t) (rw length-drop (omega arith)) in
    ap packed (take-add 8 n (drop i t)) ∙ packed-append (take 8 (drop i t)) (take n (drop 8 (drop i t))) ∙ rw (l, drop-drop, e)

pub octet-lt : (i : ℕ) (t : List ℕ) → i + 8 ≤ length t → packed (take 8 (drop i t)) < 0x100
octet-lt i t h =
    let l : length (take 8 (drop i t)) ≡ 8 = length-take-le 8 (drop i t) (rw length-drop (omega arith)) in
    rw l at (packed_lt (take 8 (drop i t)))

pub eight-octets : (i : ℕ) (t : List ℕ) → i + 64 ≤ length t → packed (take 64 (drop i t))
    ≡ packed (take 8 (drop i t)) + packed (take 8 (drop (i + 8) t)) * 0x100 + packed (take 8 (drop (i + 16) t)) * 0x1_0000 + packed
    (take 8 (drop (i + 24) t)) * 0x100_0000
    + packed (take 8 (drop (i + 32) t)) * 0x1_0000_0000 + packed (take 8 (drop (i + 40) t)) * 0x100_0000_0000 + packed
    (take 8 (drop (i + 48) t)) * 0x1_0000_0000_0000
    + packed (take 8 (drop (i + 56) t)) * 0x100_0000_0000_0000
eight-octets i t h =
    let a = octet-more 56 i (i + 8) t (omega arith) (omega arith) in
    let b = octet-more 48 (i + 8) (i + 16) t (omega arith) (omega arith) in
    let c = octet-more 40 (i + 16) (i + 24) t (omega arith) (omega arith) in
    let d = octet-more 32 (i + 24) (i + 32) t (omega arith) (omega arith) in
    let e = octet-more 24 (i + 32) (i + 40) t (omega arith) (omega arith) in
    let f = octet-more 16 (i + 40) (i + 48) t (omega arith) (omega arith) in
    let g = octet-more 8 (i + 48) (i + 56) t (omega arith) (omega arith) in
    omega arith

-- every bit of it, 0 past the end
pub packed-bit : (t : List ℕ) (i : ℕ) → bit_of (packed t) i ≡ realm_bit (get_or t i 0)
unfolding packed realm_bit bit_of
packed-bit [] i = rw zero-div
packed-bit (b ∷ t) zero = rw (bit-zero (realm_bit b + 2 * packed t)) (omega (arith, realm-le b))
packed-bit (b ∷ t) (suc i) =
    let e : (realm_bit b + 2 * packed t) / 2 ≡ packed t = omega (arith, realm-le b) in
    rw (bit-suc (realm_bit b + 2 * packed t) i, e) (packed-bit t i)

-- a block that is shorter because the table ends
pub block-short : (t : List ℕ) (i : ℕ) → length t - i < 64 → take (length t - i) (drop i t) ≡ take 64 (drop i t)
block-short t i h =
    let l : length (drop i t) ≤ length t - i = rw length-drop (omega arith) in
    let m : length (drop i t) ≤ 64 = omega arith in
    take_all (length t - i) (drop i t) l ∙ sym (take_all 64 (drop i t) m)

-- ---- the words
abbrev pub word_from : List ℕ → ℕ → ℕ
word_from t i = packed (take 64 (drop (i * 64) t))

next-block : (t : List ℕ) (i : ℕ) → drop (i * 64) (drop 64 t) ≡ drop (suc i * 64) t
next-block t i = let e : 64 + i * 64 ≡ suc i * 64 = omega arith in drop-drop (i * 64) 64 t ∙ ap (λ x. drop x t) e

pub words-length : (n : ℕ) (t : List ℕ) → length (packed_to n t) ≡ n
unfolding packed_to
words-length zero t = refl
words-length (suc n) t = rw (words-length n (drop 64 t))

pub words-at : (n : ℕ) (t : List ℕ) (i : ℕ) → i < n → get_or (packed_to n t) i 0 ≡ word_from t i
unfolding packed_to
words-at zero t i h = absurd (not-suc-le-zero h)
words-at (suc n) t zero h = refl
words-at (suc n) t (suc i) h = words-at n (drop 64 t) i (omega arith) ∙ rw (next-block t i)

pub words_last : (n : ℕ) (t : List ℕ) → packed_to (suc n) t ≡ packed_to n t ++ (word_from t n ∷ [])
unfolding packed_to
words_last zero t = refl
words_last (suc n) t = ap (λ l. packed (take 64 t) ∷ l) (words_last n (drop 64 t) ∙ rw (next-block t n))

pub words-first : (n i : ℕ) (t : List ℕ) → i < n → packed_to (n - i) (drop (i * 64) t) ≡ word_from t i ∷ packed_to (n - (i + 1))
    (drop ((i + 1) * 64) t)
unfolding packed_to
words-first n i t h =
    let e : n - i ≡ suc (n - (i + 1)) = omega arith in
    let f : i * 64 + 64 ≡ (i + 1) * 64 = omega arith in
    let d : drop 64 (drop (i * 64) t) ≡ drop ((i + 1) * 64) t = drop-drop 64 (i * 64) t ∙ ap (λ x. drop x t) f in
    ap (λ x. packed_to x (drop (i * 64) t)) e ∙ ap (λ l. word_from t i ∷ packed_to (n - (i + 1)) l) d

-- each bit is that of its granule's byte; a spare bit is zero, because it has no byte
pub bit-any : (t : List ℕ) (i : ℕ) → i / 64 < words_for (length t) → bit_at (realm_words t) i ≡ realm_bit (get_or t i 0)
bit-any t i h =
    let q : i / 64 * 64 + i % 64 ≡ i = omega arith in
    rw (words-at (words_for (length t)) t (i / 64) h)
    (packed-bit (take 64 (drop (i / 64 * 64) t)) (i % 64)
    ∙ ap realm_bit (get_or-take 64 (drop (i / 64 * 64) t) (i % 64) 0 (omega arith) ∙ get_or-drop (i / 64 * 64) t (i % 64) 0 ∙
    ap (λ x. get_or t x 0) q))

pub bit-agrees : (t : List ℕ) (i : ℕ) → i < length t → bit_at (realm_words t) i ≡ realm_bit (get_or t i 0)
unfolding words_for
bit-agrees t i h = bit-any t i (omega arith)
