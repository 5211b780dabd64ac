-- What the fields of a version imply for its number. Assumes nothing.
use Prim.Native.Nat.{ℕ, ◌/◌, ◌%◌, ◌^◌, ◌≤◌, ◌<◌}
use mathlib.Core.Path.{◌≡◌}
use mathlib.Core.Bool.{Bool}
use native.Mathlib.Omega.{arith}
use native.Mathlib.Decide.{dec_lt}
use lib.Dec.{ltb, eqb}
use borrow.Author.Tests.{leb-true, ltb-true, eqb-true, le-leb, lt-ltb, eq-eqb}
use Rattle.words.specs.Tests.{Yes, both, either}
use Rattle.words.proofs.Tests.{both_l, both_r, both_of, either_l, either_r, either-cases, same_test}
use Rattle.versions.specs.Version.{minor_of, major_of, above_of, version_ok, later}

-- an accepted version equals its minor
pub version-minor : (v : ℕ) → Yes (version_ok v) → (minor_of v ≡ v) × (1 ≤ v)
unfolding version_ok minor_of major_of above_of
version-minor v h =
    let a : v / 2 ^ 31 ≡ 0 = eqb-true _ _ (both_l _ _ h) in
    let b : v / 2 ^ 16 % 2 ^ 15 ≡ 0 = eqb-true _ _ (both_l _ _ (both_r _ _ h)) in
    let c : 1 ≤ v % 2 ^ 16 = leb-true _ _ (both_r _ _ (both_r _ _ h)) in
    (omega arith, omega arith)

-- each number from 1 to 65,535 is an accepted version
pub version_of : (v : ℕ) → 1 ≤ v → v < 2 ^ 16 → Yes (version_ok v)
unfolding version_ok minor_of major_of above_of
version_of v a b =
    let x : v / 2 ^ 31 ≡ 0 = omega arith in
    let y : v / 2 ^ 16 % 2 ^ 15 ≡ 0 = omega arith in
    let z : 1 ≤ v % 2 ^ 16 = omega arith in
    both_of _ _ (eq-eqb (v / 2 ^ 31) 0 x) (both_of _ _ (eq-eqb (v / 2 ^ 16 % 2 ^ 15) 0 y) (le-leb 1 (v % 2 ^ 16) z))

-- the later of two versions has the larger major, or the same major and the larger minor
module _ (a b : ℕ) (h : a < 2 ^ 31) (g : b < 2 ^ 31) where
  abbrev by_fields : Bool
  by_fields = either (ltb (major_of b) (major_of a)) (both (eqb (major_of b) (major_of a)) (ltb (minor_of b) (minor_of a)))

  forth : b < a → Yes by_fields
  unfolding major_of minor_of
  forth t = go (dec_lt (b / 2 ^ 16) (a / 2 ^ 16))
    where
      go : Dec (b / 2 ^ 16 < a / 2 ^ 16) → Yes (either (ltb (b / 2 ^ 16 % 2 ^ 15) (a / 2 ^ 16 % 2 ^ 15))
          (both (eqb (b / 2 ^ 16 % 2 ^ 15) (a / 2 ^ 16 % 2 ^ 15)) (ltb (b % 2 ^ 16) (a % 2 ^ 16))))
      go (yes l) = either_l _ _ (lt-ltb (b / 2 ^ 16 % 2 ^ 15) (a / 2 ^ 16 % 2 ^ 15) (omega arith))
      go (no l) =
          either_r _ _ (both_of _ _ (eq-eqb (b / 2 ^ 16 % 2 ^ 15) (a / 2 ^ 16 % 2 ^ 15) (omega arith))
          (lt-ltb (b % 2 ^ 16) (a % 2 ^ 16) (omega arith)))

  back : Yes by_fields → b < a
  unfolding major_of minor_of
  back =
      either-cases _ _ (λ t. let x : b / 2 ^ 16 % 2 ^ 15 < a / 2 ^ 16 % 2 ^ 15 = ltb-true _ _ t in omega arith)
      (λ t.
      let x : b / 2 ^ 16 % 2 ^ 15 ≡ a / 2 ^ 16 % 2 ^ 15 = eqb-true _ _ (both_l _ _ t) in
      let y : b % 2 ^ 16 < a % 2 ^ 16 = ltb-true _ _ (both_r _ _ t) in
      omega arith)

  pub later-fields : later a b ≡ by_fields
  unfolding later
  later-fields = same_test (ltb b a) by_fields (λ t. forth (ltb-true _ _ t)) (λ t. lt-ltb b a (back t))
