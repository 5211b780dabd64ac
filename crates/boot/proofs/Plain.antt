-- Request E5: "K = 0 gives 01 as it stands." Assumes nothing.
use Prim.Native.Nat.{ℕ, ◌≤◌}
use mathlib.Core.Path.{◌≡◌, refl, ap}
use mathlib.Core.Bool.{Bool, true, false}
use mathlib.Core.List.{List}
use native.Mathlib.Omega.{arith}
use lib.IntN.{ℤ}
use borrow.Author.Tests.{le-leb}
use Rattle.boot.specs.Boot.{cold_gate, cold_code, after, params_of, cold_next}
use Rattle.boot.specs.Plain.{plain_gate, plain_code}
use Rattle.boot.specs.declared.Record.{Record}
use Rattle.boot.specs.declared.Record.TheVariants.{Up}

gate-plain : (f v m n : Bool) (c : ℤ) → cold_gate f v m n true c ≡ plain_gate f v m n c
unfolding cold_gate plain_gate
gate-plain true true true true c = refl
gate-plain true true true false c = refl
gate-plain true true false n c = refl
gate-plain true false m n c = refl
gate-plain false v m n c = refl

module _ (s : Record) (x0 x1 x2 x3 most : ℕ) (page : List ℕ) where
  -- any K from 0 to 4,096 gives the codes of the cold boot without kept bytes
  pub cold-plain : (kept : ℕ) → kept ≤ 4096 → cold_code s x0 x1 x2 x3 most kept page ≡ plain_code s x0 x1 x2 x3 most page
  unfolding cold_code plain_code
  cold-plain kept h = rw (le-leb kept 4096 h) (gate-plain _ _ _ _ _)

  -- with K = 0 the next record keeps no bytes
  pub cold-none-kept : (cold_code s x0 x1 x2 x3 most 0 page ≡ plain_code s x0 x1 x2 x3 most page)
      × (cold_next s x0 x1 x2 x3 most 0 page ≡ after (plain_code s x0 x1 x2 x3 most page) (Up (params_of x1 x2 x3 0)))
  unfolding cold_next
  cold-none-kept = let z = cold-plain 0 (omega arith) in (z, ap (λ (c : ℤ). after c (Up (params_of x1 x2 x3 0))) z)
