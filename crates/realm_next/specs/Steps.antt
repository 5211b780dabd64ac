-- For the loop of `next`: `look_hit` (proofs/Looking.antt) proves `hit_below`, at the first set bit found, equal to `first_marked`. Assumes
-- nothing.
use Rattle.std.specs.Prelude.{ℕ, cond, ltb, Option, Some, None}

-- a hit at i, if i is below n
unfoldable pub hit_below : ℕ → ℕ → Option ℕ
hit_below n i = cond (ltb i n) (Some i) None
