-- The tables of editions. Assumes nothing.
use Prim.Native.Nat.{ℕ, zero, suc, min, ◌≤◌, ◌<◌}
use mathlib.Core.Path.{◌≡◌, refl}
use native.Mathlib.Nat.{not-suc-le-zero, le_refl, le_trans}
use native.Mathlib.Decide.{le_ind, dec_le}
use native.Mathlib.Omega.{arith}
use lib.Dec.{lit≤}
use borrow.Author.Tests.{leb-true, le-leb}
use Rattle.words.specs.Tests.{Yes}
use Rattle.words.proofs.Tests.{both_l, both_r, both_of}
use Rattle.versions.specs.Edition.{section_count, core, edition_ok}

-- the core sizes of ML2
pub core-sizes : (core 1 ≡ 16) × (core 2 ≡ 40) × (core 3 ≡ 64) × (core 4 ≡ 112)
unfolding core section_count
core-sizes = (refl, refl, refl, refl)

pub section-count-most : (e : ℕ) → section_count e ≤ 4
unfolding section_count
section-count-most zero = lit≤ tt
section-count-most (suc zero) = lit≤ tt
section-count-most (suc (suc zero)) = lit≤ tt
section-count-most (suc (suc (suc zero))) = lit≤ tt
section-count-most (suc (suc (suc (suc n)))) = lit≤ tt

pub section-count-first : (e : ℕ) → e < 2 → section_count e ≡ 0
unfolding section_count
section-count-first zero h = refl
section-count-first (suc zero) h = refl
section-count-first (suc (suc e)) h = omega arith

pub section-count-last : (e : ℕ) → 3 < e → section_count e ≡ 4
unfolding section_count
section-count-last zero h = absurd (not-suc-le-zero h)
section-count-last (suc zero) h = omega arith
section-count-last (suc (suc zero)) h = omega arith
section-count-last (suc (suc (suc zero))) h = omega arith
section-count-last (suc (suc (suc (suc n)))) h = refl

-- a later edition has all sections of an earlier one
section-count-step : (n : ℕ) → section_count n ≤ section_count (suc n)
unfolding section_count
section-count-step zero = lit≤ tt
section-count-step (suc zero) = lit≤ tt
section-count-step (suc (suc zero)) = lit≤ tt
section-count-step (suc (suc (suc zero))) = lit≤ tt
section-count-step (suc (suc (suc (suc n)))) = lit≤ tt

pub section-count-mono : (a b : ℕ) → a ≤ b → section_count a ≤ section_count b
section-count-mono a b h =
    le_ind (λ m. section_count a ≤ section_count m) (le_refl (section_count a)) (λ m _ i. le_trans i (section-count-step m)) b h

pub section-count-min : (a b : ℕ) → section_count (min a b) ≡ min (section_count a) (section_count b)
section-count-min a b = go (dec_le a b)
  where
    go : Dec (a ≤ b) → section_count (min a b) ≡ min (section_count a) (section_count b)
    go (yes h) = rw (let e : min a b ≡ a = omega arith in e) (omega (arith, section-count-mono a b h))
    go (no h) =
        rw (let e : min a b ≡ b = omega arith in e) (let l : section_count b ≤ section_count a = section-count-mono b a
        (omega arith) in omega arith)

-- the editions are 1 to 4
pub edition-of : (r : ℕ) → 1 ≤ r → r ≤ 4 → Yes (edition_ok r)
unfolding edition_ok
edition-of r a b = both_of _ _ (le-leb 1 r a) (le-leb r 4 b)

pub edition-range : (r : ℕ) → Yes (edition_ok r) → (1 ≤ r) × (r ≤ 4)
unfolding edition_ok
edition-range r t = (leb-true _ _ (both_l _ _ t), leb-true _ _ (both_r _ _ t))
