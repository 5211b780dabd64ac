-- A side of the queue: the number that wait, and the oldest. Assumes nothing.
use Prim.Native.Nat.{ℕ, zero, suc, ◌<◌, ◌≤◌}
use mathlib.Core.Path.{◌≡◌, refl, ap}
use mathlib.Core.List.{List, [], ◌∷◌, ◌++◌}
use lib.ListN.{length, take}
use borrow.Author.Tests.{lt-ltb, le-ltb}
use Rattle.std.specs.Prelude.{slice_get}
use Rattle.queue.specs.declared.Request.{Request}
use Rattle.queue.specs.Queue.{appended, oldest_of}

module _ {A : Type 0} where
  -- ---- adding at the end
  pub joined-room : (l : List A) (x : A) → length l < 8 → appended l x ≡ l ++ (x ∷ [])
  unfolding appended
  joined-room l x h = rw (lt-ltb (length l) 8 h)

  pub joined-full : (l : List A) (x : A) → 8 ≤ length l → appended l x ≡ l
  unfolding appended
  joined-full l x h = rw (le-ltb (length l) 8 h)

  pub taken-all : (n : ℕ) (l : List A) → take (length (take n l)) l ≡ take n l
  taken-all zero l = refl
  taken-all (suc n) [] = refl
  taken-all (suc n) (x ∷ l) = ap (λ (r : List A). x ∷ r) (taken-all n l)

-- the first entry, by the slice and by the list
pub slice-oldest : (l : List Request) → slice_get l 0 ≡ oldest_of l
unfolding oldest_of
slice-oldest [] = refl
slice-oldest (r ∷ l) = refl
