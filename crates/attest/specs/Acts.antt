-- What an accepted call of the realm key does (CM4.6). Assumes nothing.
use Rattle.std.specs.Prelude.{ℕ, ◌≡◌, List, length}
use Rattle.buffer_check.specs.Buffers.{WrittenAt}
use Rattle.codes.specs.declared.Answer.{Answer}
use Rattle.codes.specs.declared.Code.TheVariants.{Ok}

-- The key is at offset `at` of the page, and every byte before and after it is unchanged. Of the answer x1 is its length, and "unused
-- result registers are 0" (RT2)
pub record KeyActed (at : ℕ) (key page after : List ℕ) (a : Answer) : Type 0 where
  pub told : a ≡ record { code = Ok; x0 = 0; x1 = length key; x2 = 0 }
  pub written : WrittenAt at key page after
