-- The length of the text of a number or a word. Assumes nothing.
use Prim.Native.Nat.{ℕ, zero, suc, ◌*◌, ◌/◌, ◌^◌, ◌≤◌, ◌<◌}
use mathlib.Core.Path.{◌≡◌, refl, ap}
use mathlib.Core.Bool.{cond}
use native.Mathlib.Nat.{pow-suc}
use native.Mathlib.Decide.{dec_lt}
use native.Mathlib.Omega.{arith}
use lib.Dec.{ltb}
use lib.ListN.{length, get_or, length-append}
use borrow.Author.Tests.{lt-ltb, le-ltb}
use Rattle.io.specs.Digits.{last_digits}
use Rattle.words.specs.Word.{le_bytes}
use Rattle.words.proofs.Lists.{joined_length}
use Rattle.text_lines.specs.Text.{zero_x, places_in, places, decimal, hex_text, byte_text, name_byte, name_text}

pub digits-length : (b k n : ℕ) → length (last_digits b k n) ≡ k
digits-length b zero n = refl
digits-length b (suc k) n = rw (length-append, digits-length b k (n / b)) (omega arith)

places-most : (f n k : ℕ) → n < 10 ^ suc k → places_in f n ≤ suc k
unfolding places_in
places-most zero n k h = omega arith
places-most (suc f) n zero h = rw (lt-ltb n 10 h) (omega arith)
places-most (suc f) n (suc k) h = go (dec_lt n 10) (places-most f (n / 10) k)
  where
    go : Dec (n < 10) → (n / 10 < 10 ^ suc k → places_in f (n / 10) ≤ suc k) → cond (ltb n 10) 1 (suc (places_in f (n / 10))) ≤ suc (suc k)
    go (yes l) g = rw (lt-ltb n 10 l) (omega arith)
    go (no l) g =
        let m : n < 10 ^ suc k * 10 = rw pow-suc at h in
        rw (le-ltb n 10 (omega arith)) (omega (arith, g (omega arith)))

pub decimal-most : (k n : ℕ) → n < 10 ^ suc k → length (decimal n) ≤ suc k
unfolding decimal places
decimal-most k n h = rw digits-length (places-most n n k h)

pub hex-length : (w : ℕ) → length (hex_text w) ≡ 18
unfolding hex_text zero_x
hex-length w = ap (λ n. suc (suc n)) (digits-length 16 16 w)

pub name-length : (w : ℕ) → length (name_text w) ≡ 16
unfolding name_text name_byte byte_text
name-length w = joined_length 8 2 (name_byte w) (λ i. digits-length 16 2 (get_or (le_bytes 8 w) i 0))
