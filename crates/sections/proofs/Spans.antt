-- Spans that share no byte are together at most as long as the room that contains them. Assumes nothing.
use Prim.Native.Nat.{ℕ, zero, suc, ◌+◌, ◌≤◌, ◌<◌}
use mathlib.Core.Path.{◌≡◌, refl}
use mathlib.Core.Bool.{Bool, true, false, cond}
use mathlib.Core.Logic.{◌⊎◌, inl, inr, ⊎_elim}
use native.Mathlib.Omega.{arith}
use native.Mathlib.Decide.{dec_lt}
use lib.Dec.{leb}
use borrow.Author.Tests.{le-leb, lt-leb}

-- f 0 + f 1 + .. + f (n - 1)
unfoldable pub added_up : ℕ → (ℕ → ℕ) → ℕ
added_up zero f = 0
added_up (suc n) f = added_up n f + f n

-- n spans, span k being [at k, at k + s k): no two share a byte
abbrev pub NoneShared : ℕ → (ℕ → ℕ) → (ℕ → ℕ) → Type 0
NoneShared n at s = (i j : ℕ) → j < i → i < n → (at i + s i ≤ at j) ⊎ (at j + s j ≤ at i)

-- each span is empty or within [lo, hi)
abbrev pub AllWithin : ℕ → (ℕ → ℕ) → (ℕ → ℕ) → ℕ → ℕ → Type 0
AllWithin n at s lo hi = (k : ℕ) → k < n → (s k ≡ 0) ⊎ ((lo ≤ at k) × (at k + s k ≤ hi))

-- ---- the spans that end at m or before, and the others
module _ (at s : ℕ → ℕ) (m : ℕ) where
  unfoldable lower : ℕ → ℕ
  lower k = cond (leb (at k + s k) m) (s k) 0

  unfoldable upper : ℕ → ℕ
  upper k = cond (leb (at k + s k) m) 0 (s k)

  both-parts : (k : ℕ) → s k ≡ lower k + upper k
  unfolding lower upper
  both-parts k = go (leb (at k + s k) m)
    where
      go : (b : Bool) → s k ≡ cond b (s k) 0 + cond b 0 (s k)
      go true = omega arith
      go false = omega arith

  all-parts : (n : ℕ) → added_up n s ≡ added_up n lower + added_up n upper
  unfolding added_up
  all-parts zero = refl
  all-parts (suc n) = omega (arith, all-parts n, both-parts n)

-- shorter spans share no byte either
shorter : (n : ℕ) (at s t : ℕ → ℕ) → ((k : ℕ) → t k ≤ s k) → NoneShared n at s → NoneShared n at t
shorter n at s t h a i j l g = ⊎_elim (λ u. inl (omega (arith, h i))) (λ u. inr (omega (arith, h j))) (a i j l g)

-- ---- by the last span: the others are below it or above it
module _ (n : ℕ) (at s : ℕ → ℕ) (lo hi : ℕ) (w : AllWithin (suc n) at s lo hi) (a : NoneShared (suc n) at s) where
  below : AllWithin n at (lower at s (at n)) lo (at n)
  unfolding lower
  below k l = go (dec_lt (at n) (at k + s k))
    where
      go : Dec (at n < at k + s k) → (lower at s (at n) k ≡ 0) ⊎ ((lo ≤ at k) × (at k + lower at s (at n) k ≤ at n))
      go (yes x) = rw (lt-leb (at k + s k) (at n) x) (inl refl)
      go (no x) = rw (le-leb (at k + s k) (at n) (omega arith)) (⊎_elim (λ z. inl z) (λ q. inr (q.0, omega arith)) (w k (omega arith)))

  above : AllWithin n at (upper at s (at n)) (at n + s n) hi
  unfolding upper
  above k l = go (dec_lt (at n) (at k + s k))
    where
      go : Dec (at n < at k + s k) → (upper at s (at n) k ≡ 0) ⊎ ((at n + s n ≤ at k) × (at k + upper at s (at n) k ≤ hi))
      go (yes x) =
          rw (lt-leb (at k + s k) (at n) x)
          (⊎_elim (λ z. inl z) (λ q. inr (⊎_elim (λ u. u) (λ u. absurd (let z : ⊥ = omega arith in z)) (a n k l (omega arith)), q.1))
          (w k (omega arith)))
      go (no x) = rw (le-leb (at k + s k) (at n) (omega arith)) (inl refl)

pub spans_fit : (n : ℕ) (at s : ℕ → ℕ) (lo hi : ℕ) → lo ≤ hi → AllWithin n at s lo hi → NoneShared n at s → lo + added_up n s ≤ hi
unfolding added_up
spans_fit zero at s lo hi l w a = omega arith
spans_fit (suc n) at s lo hi l w a =
    let c : NoneShared n at s = λ i j g h. a i j g (omega arith) in
    let t = lower at s (at n) in
    let u = upper at s (at n) in
    ⊎_elim
    (λ z. omega (arith, spans_fit n at s lo hi l (λ k h. w k (omega arith)) c))
    (λ p.
    let x = spans_fit n at t lo (at n) p.0 (below n at s lo hi w a)
    (shorter n at s t (λ k. omega (arith, both-parts at s (at n) k)) c) in
    let y = spans_fit n at u (at n + s n) hi p.1 (above n at s lo hi w a)
    (shorter n at s u (λ k. omega (arith, both-parts at s (at n) k)) c) in
    omega (arith, all-parts at s (at n) n))
    (w n (omega arith))
