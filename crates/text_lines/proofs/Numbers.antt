-- How many digits a number takes. Assumes nothing.
use Prim.Native.Nat.{ℕ, zero, suc, ◌-◌, ◌*◌, ◌/◌, ◌^◌, ◌≤◌, ◌<◌}
use mathlib.Core.Path.{◌≡◌, refl, ap, ◌∙◌}
use mathlib.Core.Bool.{cond}
use mathlib.Core.List.{List}
use native.Mathlib.Nat.{pow-le-pow_right, pow-suc, not-suc-le-zero}
use native.Mathlib.Decide.{dec_lt}
use native.Mathlib.Omega.{arith}
use lib.Dec.{lit≤, ltb}
use lib.ListN.{take}
use borrow.Author.Tests.{lt-ltb, le-ltb}
use Rattle.io.specs.Digits.{last_digits, IsDigitCount}
use Rattle.text_lines.specs.Text.{places_in, places, decimal}

-- ---- decimal numbers
-- ten to the power of one or more
ten : (r : ℕ) → 0 < r → 10 ≤ 10 ^ r
ten zero h = elim h [ ]
ten (suc r) h = let p : 10 ^ 0 ≤ 10 ^ r = pow-le-pow_right (lit≤ tt) {i = 0} {j = r} (omega arith) in rw pow-suc (omega arith)

-- one digit fewer
less_one : (r : ℕ) → suc r - 1 ≡ r
less_one r = omega arith

-- the number of digits below 10, and from 10 on
one_place : (n r : ℕ) → n < 10 → IsDigitCount 10 1 n r → r ≡ 1
one_place n zero h f = absurd (not-suc-le-zero f.0)
one_place n (suc zero) h f = refl
one_place n (suc (suc r)) h f =
    let p : 10 ≤ 10 ^ suc r = ten (suc r) (omega arith) in
    let q : 10 ^ suc r ≤ n = rw (less_one (suc r)) at (f.2 (omega arith)) in
    absurd (let z : ⊥ = omega arith in z)

more-places : (n r : ℕ) → 10 ≤ n → IsDigitCount 10 1 n r → (r ≡ suc (r - 1)) × IsDigitCount 10 1 (n / 10) (r - 1)
more-places n zero h f = absurd (not-suc-le-zero f.0)
more-places n (suc zero) h f = absurd (let p : n < 10 = f.1 in let z : ⊥ = omega arith in z)
more-places n (suc (suc r)) h f =
    let p : n < 10 ^ suc r * 10 = rw pow-suc at f.1 in
    let q : 10 ^ suc r ≤ n = rw (less_one (suc r)) at (f.2 (omega arith)) in
    let o : 10 ^ r * 10 ≤ n = rw pow-suc at q in
    rw (less_one (suc r)) (refl, (omega arith, omega arith, λ l. rw (less_one r) (omega arith)))

places-in : (f n r : ℕ) → n ≤ f → IsDigitCount 10 1 n r → r ≡ places_in f n
unfolding places_in
places-in zero n r h w = one_place n r (omega arith) w
places-in (suc f) n r h w = go (dec_lt n 10) (λ l. places-in f (n / 10) (r - 1) (omega arith))
  where
    go : Dec (n < 10) → (10 ≤ n → IsDigitCount 10 1 (n / 10) (r - 1) → r - 1 ≡ places_in f (n / 10)) →
        r ≡ cond (ltb n 10) 1 (suc (places_in f (n / 10)))
    go (yes k) g = rw (lt-ltb n 10 k) (one_place n r k w)
    go (no k) g =
        let l : 10 ≤ n = omega arith in
        let m = more-places n r l w in
        rw (le-ltb n 10 l) (m.0 ∙ ap suc (g l m.1))

-- what `io::decimal` puts is the number's text
pub decimal-put : (n r : ℕ) (t : List ℕ) → IsDigitCount 10 1 n r → take r t ≡ last_digits 10 r n → take r t ≡ decimal n
unfolding decimal places
decimal-put n r t f e = e ∙ ap (λ x. last_digits 10 x n) (places-in n n r (omega arith) f)

-- ---- hexadecimal numbers of a fixed width
-- with at least k digits, a number below 16 ^ k takes exactly k
pub width : (k n r : ℕ) → n < 16 ^ k → IsDigitCount 16 k n r → r ≡ k
width k n r h f = go (dec_lt k r)
  where
    go : Dec (k < r) → r ≡ k
    go (yes l) =
        let p : 16 ^ k ≤ 16 ^ (r - 1) = pow-le-pow_right (lit≤ tt) {i = k} {j = r - 1} (omega arith) in
        let q : 16 ^ (r - 1) ≤ n = f.2 l in
        absurd (let z : ⊥ = omega arith in z)
    go (no l) = let p : k ≤ r = f.0 in omega arith

-- what `io::hex` writes is that number of digits
pub hex-put : (k n r : ℕ) (t : List ℕ) → n < 16 ^ k → IsDigitCount 16 k n r → take r t ≡ last_digits 16 r n → take r t ≡ last_digits 16 k n
hex-put k n r t h f e = e ∙ ap (λ x. last_digits 16 x n) (width k n r h f)
