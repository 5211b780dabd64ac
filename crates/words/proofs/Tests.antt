-- Laws of tests, of `every` and of `some`. Assumes nothing.
use Prim.Native.Nat.{ℕ, zero, suc, ◌+◌, ◌<◌}
use mathlib.Core.Path.{◌≡◌, refl, sym}
use mathlib.Core.Bool.{Bool, true, false, cond, false≢true}
use mathlib.Core.Logic.{⊎_elim}
use native.Mathlib.Omega.{arith}
use native.Mathlib.Numerals.{add-one}
use native.Mathlib.Nat.{not-suc-le-zero, eq-or-lt_of_le, le_of_suc-le-suc}
use native.Mathlib.Decide.{dec_lt}
use Rattle.words.specs.Tests.{Yes, both, either, every, some}

pub both_l : (a b : Bool) → Yes (both a b) → Yes a
unfolding both
both_l true b h = refl
both_l false b h = h

pub both_r : (a b : Bool) → Yes (both a b) → Yes b
unfolding both
both_r true b h = h
both_r false b h = absurd (false≢true h)

pub both_of : (a b : Bool) → Yes a → Yes b → Yes (both a b)
unfolding both
both_of true b g h = h
both_of false b g h = g

pub either_l : (a b : Bool) → Yes a → Yes (either a b)
unfolding either
either_l true b h = refl
either_l false b h = absurd (false≢true h)

pub either_r : (a b : Bool) → Yes b → Yes (either a b)
unfolding either
either_r true b h = refl
either_r false b h = h

pub both-map : (a b c d : Bool) → (Yes a → Yes c) → (Yes b → Yes d) → Yes (both a b) → Yes (both c d)
both-map a b c d f g h = both_of c d (f (both_l a b h)) (g (both_r a b h))

pub either-map : (a b c : Bool) → (Yes b → Yes c) → Yes (either a b) → Yes (either a c)
unfolding either
either-map true b c f h = refl
either-map false b c f h = f h

-- tests that imply each other are equal
pub same_test : (a b : Bool) → (Yes a → Yes b) → (Yes b → Yes a) → a ≡ b
same_test true b f g = sym (f refl)
same_test false true f g = g refl
same_test false false f g = refl

pub every-at : (n : ℕ) (f : ℕ → Bool) → Yes (every n f) → (i : ℕ) → i < n → Yes (f i)
unfolding every
every-at zero f h i l = absurd (not-suc-le-zero l)
every-at (suc n) f h i l = go (dec_lt i n) (every-at n f (both_l _ _ h) i)
  where
    go : Dec (i < n) → (i < n → Yes (f i)) → Yes (f i)
    go (yes a) r = r a
    go (no a) r = rw (let e : i ≡ n = omega arith in e) (both_r _ _ h)

pub every_of : (n : ℕ) (f : ℕ → Bool) → ((i : ℕ) → i < n → Yes (f i)) → Yes (every n f)
unfolding every
every_of zero f h = refl
every_of (suc n) f h = both_of _ _ (every_of n f (λ i l. h i (omega arith))) (h n (omega arith))

pub every-same : (n : ℕ) (f g : ℕ → Bool) → ((i : ℕ) → i < n → f i ≡ g i) → every n f ≡ every n g
unfolding every
every-same zero f g h = refl
every-same (suc n) f g h = rw (every-same n f g (λ i l. h i (omega arith)), h n (omega arith))

pub some_of : (n : ℕ) (f : ℕ → Bool) (i : ℕ) → i < n → Yes (f i) → Yes (some n f)
unfolding some
some_of zero f i l h = absurd (not-suc-le-zero l)
some_of (suc n) f i l h = go (dec_lt i n) (some_of n f i)
  where
    go : Dec (i < n) → (i < n → Yes (f i) → Yes (some n f)) → Yes (either (some n f) (f n))
    go (yes a) r = either_l _ _ (r a h)
    go (no a) r = either_r _ _ (rw (let e : i ≡ n = omega arith in e) at h)

-- ---- `every`, for a loop that counts up
pub every-none : (f : ℕ → Bool) → every 0 f ≡ true
unfolding every
every-none f = refl

pub every_more : (n : ℕ) (f : ℕ → Bool) → every n f ≡ true → f n ≡ true → every (n + 1) f ≡ true
unfolding every both
every_more n f p q = rw (add-one, p, q)

pub both_false : (a : Bool) → both a false ≡ false
unfolding both
both_false true = refl
both_false false = refl

pub every-not : (n : ℕ) (f : ℕ → Bool) (k : ℕ) → k < n → f k ≡ false → every n f ≡ false
unfolding every both
every-not zero f k h e = absurd (not-suc-le-zero h)
every-not (suc n) f k h e = ⊎_elim (λ q. rw (← q, e, both_false)) (λ l. rw (every-not n f k l e)) (eq-or-lt_of_le (le_of_suc-le-suc h))

-- ---- a choice made by a test
pub cond_same : {A : Type 0} (b : Bool) (x y z : A) → (Yes b → x ≡ y) → cond b x z ≡ cond b y z
cond_same true x y z h = h refl
cond_same false x y z h = refl

pub either-cases : (a b : Bool) {P : Type 0} → (Yes a → P) → (Yes b → P) → Yes (either a b) → P
unfolding either
either-cases true b f g h = f refl
either-cases false b f g h = g h
