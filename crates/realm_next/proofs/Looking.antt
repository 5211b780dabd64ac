-- The first set bit at or after an index, in the loop. Assumes nothing.
use Prim.Native.Nat.{ℕ, zero, suc, ◌+◌, ◌-◌, ◌*◌, ◌/◌, ◌%◌, ◌^◌, ◌≤◌, ◌<◌}
use mathlib.Core.Path.{◌≡◌, sym, ap, ◌∙◌}
use mathlib.Core.List.{List}
use native.Mathlib.Omega.{arith}
use native.Mathlib.Nat.{add-zero, zero-div, not-suc-le-zero}
use native.Mathlib.Decide.{dec_lt}
use lib.ListN.{get_or}
use lib.Count.{count_trailing_zeros}
use lib.Pow.{mod-pow-add}
use borrow.Author.Tests.{lt-ltb, le-ltb}
use Rattle.std.specs.Prelude.{None}
use Rattle.realm_words.specs.Bits.{bit_of, bit_at, words_for}
use Rattle.realm_words.specs.Answers.{first_marked}
use Rattle.realm_words.proofs.Bits.{bit-zero, bit-suc}
use Rattle.realm_next.specs.Steps.{hit_below}
use Rattle.realm_next.proofs.Trailing.{tz-at, tz-below}

-- ---- numbers that are not marked are skipped
abbrev Clear : (ℕ → ℕ) → ℕ → ℕ → Type 0
Clear f from to = (j : ℕ) → from ≤ j → j < to → f j ≡ 0

first-skip : (f : ℕ → ℕ) (m k i : ℕ) → Clear f i (i + m) → first_marked f (m + k) i ≡ first_marked f k (i + m)
unfolding first_marked
first-skip f zero k i h = let a : 0 + k ≡ k = omega arith in let b : i + 0 ≡ i = omega arith in rw (a, b)
first-skip f (suc m) k i h =
    let a : suc m + k ≡ suc (m + k) = omega arith in
    let b : suc i + m ≡ i + suc m = omega arith in
    rw (a, h i (omega arith) (omega arith), ← b) (first-skip f m k (suc i) (λ j l u. h j (omega arith) (omega arith)))

first-none : (f : ℕ → ℕ) (n i : ℕ) → i ≤ n → Clear f i n → first_marked f (n - i) i ≡ None
unfolding first_marked
first-none f n i l h = rw add-zero at (first-skip f (n - i) 0 i (λ j a b. h j a (omega arith)))

-- the next one is marked: it is the hit, if it is below n
first-is : (f : ℕ → ℕ) (n i at : ℕ) → i < n → i ≤ at → Clear f i at → f at ≡ 1 → first_marked f (n - i) i ≡ hit_below n at
unfolding first_marked hit_below
first-is f n i at p l h e = go (dec_lt at n)
  where
    go : Dec (at < n) → first_marked f (n - i) i ≡ hit_below n at
    go (yes y) =
        let s : n - i ≡ (at - i) + suc (n - at - 1) = omega arith in
        let t : i + (at - i) ≡ at = omega arith in
        rw (lt-ltb at n y) (ap (λ x. first_marked f x i) s ∙ first-skip f (at - i) (suc (n - at - 1)) i (λ j a b. h j a (omega arith)) ∙
        rw (t, e))
    go (no y) = rw (le-ltb at n (omega arith)) (first-none f n i (omega arith) (λ j a b. h j a (omega arith)))

-- ---- the bits below k masked out
high-suc : (w k : ℕ) → w - w % 2 ^ suc k ≡ 2 * (w / 2 - w / 2 % 2 ^ k)
high-suc w k =
    let s : suc k ≡ k + 1 = omega arith in
    let m : w % 2 ^ (k + 1) ≡ w / 2 ^ 1 % 2 ^ k * 2 ^ 1 + w % 2 ^ 1 = mod-pow-add w k 1 in
    rw (s, m) (omega arith)

high-below : (w k j : ℕ) → j < k → bit_of (w - w % 2 ^ k) j ≡ 0
high-below w zero j h = absurd (not-suc-le-zero h)
high-below w (suc k) zero h = rw (bit-zero, high-suc) (omega arith)
high-below w (suc k) (suc j) h =
    let e : 2 * (w / 2 - w / 2 % 2 ^ k) / 2 ≡ w / 2 - w / 2 % 2 ^ k = omega arith in
    rw (bit-suc (w - w % 2 ^ suc k) j, high-suc, e) (high-below (w / 2) k j (omega arith))

high-above : (w k j : ℕ) → k ≤ j → bit_of (w - w % 2 ^ k) j ≡ bit_of w j
high-above w zero j h = let e : w - w % 1 ≡ w = omega arith in rw e
high-above w (suc k) zero h = absurd (not-suc-le-zero h)
high-above w (suc k) (suc j) h =
    let e : 2 * (w / 2 - w / 2 % 2 ^ k) / 2 ≡ w / 2 - w / 2 % 2 ^ k = omega arith in
    rw (bit-suc (w - w % 2 ^ suc k) j, high-suc, e) (high-above (w / 2) k j (omega arith) ∙ sym (bit-suc w j))

-- ---- the loop: no bit of [i, 64 * at) is set, and `bits` has the bits of word `at` from i on
pub record Look (ws : List ℕ) (n i at bits : ℕ) : Type 0 where
  pub below : at * 64 < n
  pub begun : i < at * 64 + 64
  pub passed : Clear (bit_at ws) i (at * 64)
  pub masked : (j : ℕ) → at * 64 + j < i → bit_of bits j ≡ 0
  pub held : (j : ℕ) → j < 64 → i ≤ at * 64 + j → bit_of bits j ≡ bit_at ws (at * 64 + j)

bit_in : (ws : List ℕ) (at j : ℕ) → j < 64 → bit_of (get_or ws at 0) j ≡ bit_at ws (at * 64 + j)
bit_in ws at j l =
    let d : (at * 64 + j) / 64 ≡ at = omega arith in
    let m : (at * 64 + j) % 64 ≡ j = omega arith in
    rw (d, m)

pub look-first : (ws : List ℕ) (n i bits : ℕ) → i < n → bits ≡ get_or ws (i / 64) 0 - get_or ws (i / 64) 0 % 2 ^ (i % 64) →
    Look ws n i (i / 64) bits
look-first ws n i bits h e =
    record {
      below = omega arith;
      begun = omega arith;
      passed = λ j a b. absurd (let z : j < j = omega arith in omega arith);
      masked = λ j b. rw e (high-below (get_or ws (i / 64) 0) (i % 64) j (omega arith));
      held = λ j l b. rw e (high-above (get_or ws (i / 64) 0) (i % 64) j (omega arith) ∙ bit_in ws (i / 64) j l);
    }

module _ (ws : List ℕ) (n i at bits : ℕ) (k : Look ws n i at bits) where
  -- the first b bits of the word are skipped, too, if no bit of them is set
  clear-to : (b : ℕ) → b ≤ 64 → ((j : ℕ) → j < b → bit_of bits j ≡ 0) → Clear (bit_at ws) i (at * 64 + b)
  clear-to b l h j a c = go (dec_lt j (at * 64))
    where
      go : Dec (j < at * 64) → bit_at ws j ≡ 0
      go (yes y) = k.passed j a y
      go (no y) =
          let e : at * 64 + (j - at * 64) ≡ j = omega arith in
          sym (k.held (j - at * 64) (omega arith) (omega arith) ∙ ap (bit_at ws) e) ∙ h (j - at * 64) (omega arith)

  -- no bit of the word is set
  module _ (z : bits ≡ 0) where
    clear : Clear (bit_at ws) i (at * 64 + 64)
    unfolding bit_of
    clear = clear-to 64 (omega arith) (λ j l. rw (z, zero-div))

    pub look-more : (b : ℕ) → at + 1 < words_for n → b ≡ get_or ws (at + 1) 0 → Look ws n i (at + 1) b
    unfolding words_for
    look-more b h e =
        let u = k.begun in
        record {
          below = omega arith;
          begun = omega arith;
          passed = λ j a c. clear j a (omega arith);
          masked = λ j c. absurd (let z : j < j = omega arith in omega arith);
          held = λ j l c. rw e (bit_in ws (at + 1) j l);
        }

    pub look_none : i < n → words_for n ≤ at + 1 → first_marked (bit_at ws) (n - i) i ≡ None
    unfolding words_for
    look_none p h = first-none (bit_at ws) n i (omega arith) (λ j a b. clear j a (omega arith))

  -- a bit is set: the lowest set bit is not among the cleared ones
  module _ (h : count_trailing_zeros 64 bits < 64) where
    hit-after : i ≤ at * 64 + count_trailing_zeros 64 bits
    hit-after = go (dec_lt (at * 64 + count_trailing_zeros 64 bits) i)
      where
        go : Dec (at * 64 + count_trailing_zeros 64 bits < i) → i ≤ at * 64 + count_trailing_zeros 64 bits
        go (yes y) = absurd (let z : ◌≡◌ {A = ℕ} 0 1 = sym (k.masked (count_trailing_zeros 64 bits) y) ∙ tz-at 64 bits h in omega arith)
        go (no y) = omega arith

    pub look_hit : i < n → first_marked (bit_at ws) (n - i) i ≡ hit_below n (at * 64 + count_trailing_zeros 64 bits)
    look_hit p =
        first-is (bit_at ws) n i (at * 64 + count_trailing_zeros 64 bits) p hit-after
        (clear-to (count_trailing_zeros 64 bits) (omega arith) (tz-below 64 bits))
        (sym (k.held (count_trailing_zeros 64 bits) h hit-after) ∙ tz-at 64 bits h)
