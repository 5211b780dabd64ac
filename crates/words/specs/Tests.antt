-- Tests. A test is a Bool; `Yes` states that it holds. `every` and `some` run over the numbers below n. Assumes nothing.
use Rattle.std.specs.Prelude.{ℕ, zero, suc, ◌≡◌, Bool, true, false}

-- the test holds
abbrev pub Yes : Bool → Type 0
Yes b = b ≡ true

-- both tests hold
unfoldable pub both : Bool → Bool → Bool
both true b = b
both false b = false

-- at least one of two tests holds
unfoldable pub either : Bool → Bool → Bool
either true b = true
either false b = b

-- f holds for each number below n
unfoldable pub every : ℕ → (ℕ → Bool) → Bool
every zero f = true
every (suc n) f = both (every n f) (f n)

-- f holds for at least one number below n
unfoldable pub some : ℕ → (ℕ → Bool) → Bool
some zero f = false
some (suc n) f = either (some n f) (f n)
