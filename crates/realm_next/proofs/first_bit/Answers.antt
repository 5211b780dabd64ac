use mathlib.Core.Path.{refl}
use native.Mathlib.Omega.{arith}
use lib.Count.{trailing_le}
use borrow.Author.Rules.{rules}
use Rattle.realm_next.proofs.Trailing.{tz-lt}
use Rattle.realm_next.proofs.first_bit.Goals as goal

pub overflow_cast-result : goal.overflow_cast-result
overflow_cast-result c = omega (arith, trailing_le 64 c.args.w)

pub returns : goal.returns
returns c = (refl, λ p. tz-lt 64 64 c.args.w p (search rules) (omega arith))
