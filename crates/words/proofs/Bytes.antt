-- Lists of bytes: bounds of the numbers read from them, and that writing these numbers gives the bytes back. Assumes nothing.
use Prim.Native.Nat.{ℕ, zero, suc, ◌+◌, ◌-◌, ◌*◌, ◌/◌, ◌%◌, ◌^◌, ◌≤◌, ◌<◌}
use mathlib.Core.Path.{◌≡◌, refl, ap, ◌∙◌}
use mathlib.Core.List.{List, [], ◌∷◌, ◌++◌, append-nil}
use native.Mathlib.Omega.{arith}
use native.Mathlib.Nat.{pow-suc, sub-zero, suc-sub-suc}
use lib.ListN.{length, take, drop, get_or, replicate, length-drop, take-append-drop}
use lib.Seq.{get_or-drop, length-take-le}
use lib.Dec.{lit≤}
use borrow.Author.Tests.{lt-ltb}
use lib.Seq.{take_all}
use Rattle.std.proofs.Common.{reverse, fold, bit_or}
use Rattle.std.proofs.lemmas.Grind.{reverse_onto}
use Rattle.std.proofs.lemmas.List.Sums.{fold_push}
use Rattle.std.proofs.lemmas.Nat.{or_shifted}
use Rattle.words.specs.Tests.{Yes}
use Rattle.words.specs.Word.{le_of, le_bytes, part, words_of, bytes_of, are_words}
use Rattle.words.proofs.Tests.{both_of}

-- each number is below 256
abbrev pub Bytes : List ℕ → Type 0
Bytes bs = (i : ℕ) → get_or bs i 0 < 256

pub bytes_drop : (n : ℕ) (bs : List ℕ) → Bytes bs → Bytes (drop n bs)
bytes_drop n bs b i = rw get_or-drop (b (n + i))

bytes_take : (n : ℕ) (bs : List ℕ) → Bytes bs → Bytes (take n bs)
bytes_take zero bs b i = lit≤ tt
bytes_take (suc n) [] b i = lit≤ tt
bytes_take (suc n) (x ∷ bs) b zero = b 0
bytes_take (suc n) (x ∷ bs) b (suc i) = bytes_take n bs (λ j. b (suc j)) i

pub bytes-part : (off n : ℕ) (bs : List ℕ) → Bytes bs → Bytes (part off n bs)
unfolding part
bytes-part off n bs b = bytes_take n (drop off bs) (bytes_drop off bs b)

pub number-below : (n : ℕ) (bs : List ℕ) → Bytes bs → le_of (take n bs) < 256 ^ n
unfolding le_of
number-below zero bs b = lit≤ tt
number-below (suc n) [] b = let i = number-below n [] b in rw pow-suc (omega arith)
number-below (suc n) (x ∷ bs) b = let l : x < 256 = b 0 in let i = number-below n bs (λ j. b (suc j)) in rw pow-suc (omega arith)

pub words-read : (n : ℕ) (bs : List ℕ) → Bytes bs → Yes (are_words (words_of n bs))
unfolding words_of are_words
words-read zero bs b = refl
words-read (suc n) bs b =
    both_of _ _ (lt-ltb (le_of (take 8 bs)) (2 ^ 64) (number-below 8 bs b)) (words-read n (drop 8 bs) (bytes_drop 8 bs b))

-- writing the number of m or fewer bytes as m bytes gives the bytes, padded with zeros
pub zero-bytes : (m : ℕ) → le_bytes m 0 ≡ replicate m 0
unfolding le_bytes
zero-bytes zero = refl
zero-bytes (suc m) = ap (λ (t : List ℕ). 0 ∷ t) (zero-bytes m)

pub number-padded : (m : ℕ) (bs : List ℕ) → Bytes bs → length bs ≤ m → le_bytes m (le_of bs) ≡ bs ++ replicate (m - length bs) 0
unfolding le_of le_bytes
number-padded m [] b h = rw sub-zero (zero-bytes m)
number-padded zero (x ∷ bs) b h = absurd (let z : ⊥ = omega arith in z)
number-padded (suc m) (x ∷ bs) b h =
    let l : x < 256 = b 0 in
    let low : (x + 256 * le_of bs) % 256 ≡ x = omega arith in
    let high : (x + 256 * le_of bs) / 256 ≡ le_of bs = omega arith in
    rw (low, high, suc-sub-suc, number-padded m bs (λ j. b (suc j)) (omega arith))

-- writing the number of n bytes as n bytes gives the bytes
pub number-back : (n : ℕ) (bs : List ℕ) → Bytes bs → n ≤ length bs → le_bytes n (le_of (take n bs)) ≡ take n bs
number-back n bs b h =
    let l : length (take n bs) ≡ n = length-take-le n bs h in
    let z : n - length (take n bs) ≡ 0 = omega arith in
    number-padded n (take n bs) (bytes_take n bs b) (omega arith) ∙ rw z (append-nil (take n bs))

pub words_back : (n : ℕ) (bs : List ℕ) → Bytes bs → length bs ≡ 8 * n → bytes_of (words_of n bs) ≡ bs
unfolding words_of bytes_of
words_back zero [] b h = refl
words_back zero (x ∷ bs) b h = absurd (let z : ⊥ = omega arith in z)
words_back (suc n) bs b h =
    rw (number-back 8 bs b (omega arith), words_back n (drop 8 bs) (bytes_drop 8 bs b) (rw length-drop (omega arith)))
    (take-append-drop 8 bs)

-- the number made of the bytes from the last to the first, each shifted in from below
shifted : (n b : ℕ) → n < 256 ^ 7 → b < 256 → bit_or (n * 2 ^ 8 % 2 ^ 64) b ≡ b + 256 * n
shifted n b h l =
    let z : n * 2 ^ 8 % 2 ^ 64 ≡ n * 2 ^ 8 = omega arith in rw (z, or_shifted n 8 b l) (omega arith)

pub number-folded : (bs : List ℕ) → Bytes bs → length bs ≤ 7 → fold (λ n b. bit_or (n * 2 ^ 8 % 2 ^ 64) b) 0 (reverse bs) ≡ le_of bs
unfolding le_of
number-folded [] b h = refl
number-folded (x ∷ bs) b h =
    let i = number-folded bs (λ j. b (suc j)) (omega arith) in
    let m : le_of (take 7 bs) < 256 ^ 7 = number-below 7 bs (λ j. b (suc j)) in
    rw (reverse_onto bs x [], fold_push, i) (shifted (le_of bs) x (rw (take_all 7 bs (omega arith)) at m) (b 0))
