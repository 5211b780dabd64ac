-- A failed boot closes the record, and a closed record never opens again. Assumes nothing.
use Prim.Native.Nat.{ℕ}
use mathlib.Core.Path.{◌≡◌, refl}
use mathlib.Core.Bool.{Bool, true, false, cond}
use mathlib.Core.Logic.{◌⊎◌, inl, inr}
use mathlib.Core.List.{List, [], ◌∷◌}
use lib.Dec.{ltb}
use lib.IntN.{pos, negsuc}
use Rattle.reader.specs.Answer.{minus}
use Rattle.boot.specs.Boot.{is_fresh, cold_gate, cold_code, after, cold_next, cpu_code, warm_code, warm_next}
use Rattle.boot.specs.Boots.{Boot, cold, warm, booted, all_booted}
use Rattle.boot.specs.declared.Params.{Params}
use Rattle.boot.specs.declared.Record.{Record}
use Rattle.boot.specs.declared.Record.TheVariants.{Up, Closed}

closed-step : (b : Boot) → booted Closed b ≡ Closed
unfolding booted cold_next cold_code cold_gate is_fresh warm_next warm_code after
closed-step (cold x0 x1 x2 x3 most kept page) = refl
closed-step (warm x0 x1 x2 x3) = refl

-- "Any boot error closes it for good.": over any sequence of boots
pub closed-stays : (bs : List Boot) → all_booted Closed bs ≡ Closed
unfolding all_booted
closed-stays [] = refl
closed-stays (b ∷ bs) = rw (closed-step b) (closed-stays bs)

-- a boot with a negative code closes the record, for any record
pub cold-closes : (s : Record) (x0 x1 x2 x3 most kept : ℕ) (page : List ℕ) (n : ℕ) → cold_code s x0 x1 x2 x3 most kept page ≡ negsuc n →
    cold_next s x0 x1 x2 x3 most kept page ≡ Closed
unfolding cold_next after
cold-closes s x0 x1 x2 x3 most kept page n h = rw h

pub warm-closes : (s : Record) (x0 n : ℕ) → warm_code s x0 ≡ negsuc n → warm_next s x0 ≡ Closed
unfolding warm_next after
warm-closes s x0 n h = rw h

-- a record that is up keeps its parameters over any sequence of boots, until one closes it
up_step : (u : Params) (b : Boot) → (booted (Up u) b ≡ Up u) ⊎ (booted (Up u) b ≡ Closed)
unfolding booted cold_next cold_code cold_gate is_fresh warm_next warm_code cpu_code after
up_step u (cold x0 x1 x2 x3 most kept page) = inr refl
up_step u (warm x0 x1 x2 x3) = go (ltb x0 u.cpus)
  where
    go : (b : Bool) → (after (cond b (pos 0) (minus 4)) (Up u) ≡ Up u) ⊎ (after (cond b (pos 0) (minus 4)) (Up u) ≡ Closed)
    go true = inl refl
    go false = inr refl

pub up-stays : (u : Params) (bs : List Boot) → (all_booted (Up u) bs ≡ Up u) ⊎ (all_booted (Up u) bs ≡ Closed)
unfolding all_booted
up-stays u [] = inl refl
up-stays u (b ∷ bs) = go (up_step u b) (up-stays u bs)
  where
    go : (booted (Up u) b ≡ Up u) ⊎ (booted (Up u) b ≡ Closed) → (all_booted (Up u) bs ≡ Up u) ⊎ (all_booted (Up u) bs ≡ Closed) →
        (all_booted (booted (Up u) b) bs ≡ Up u) ⊎ (all_booted (booted (Up u) b) bs ≡ Closed)
    go (inl e) h = rw e h
    go (inr e) h = inr (rw e (closed-stays bs))
