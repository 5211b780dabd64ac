use mathlib.Core.Path.{◌≡◌, refl}
use Prim.Native.Nat.{ℕ}
use mathlib.Core.Bool.{Bool, true, false, not}
use lib.Dec.{eqb}
use Rattle.codes.specs.Codes.{is_false}
use Rattle.signing.specs.Signing.{bad_curve}
use Rattle.signing.specs.declared.Opcode.{Opcode}
use Rattle.signing.specs.declared.Opcode.TheVariants.{Push, Pull, Key, Other}
use Rattle.signing.proofs.Opcode.refuses_curve.Goals as goal

not-is : (b : Bool) → not b ≡ is_false b
unfolding is_false
not-is true = refl
not-is false = refl

no-curve : (o : Opcode) (curve : ℕ) → (o ≡ Key → ⊥) → false ≡ bad_curve o curve
unfolding bad_curve
no-curve Push curve h = refl
no-curve Pull curve h = refl
no-curve Key curve h = absurd (h refl)
no-curve Other curve h = refl

pub returns-in-Key : goal.returns-in-Key
unfolding bad_curve
returns-in-Key c = rw c.in-Key.is (not-is (eqb c.args.curve 0))

pub returns-in_default : goal.returns-in_default
returns-in_default c = no-curve c.args.self c.args.curve c.in_default.not-Key
