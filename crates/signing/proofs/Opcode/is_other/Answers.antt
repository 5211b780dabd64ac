use mathlib.Core.Path.{◌≡◌, refl}
use mathlib.Core.Bool.{false}
use Rattle.signing.specs.Signing.{is_other}
use Rattle.signing.specs.declared.Opcode.{Opcode}
use Rattle.signing.specs.declared.Opcode.TheVariants.{Push, Pull, Key, Other}
use Rattle.signing.proofs.Opcode.is_other.Goals as goal

listed : (o : Opcode) → (o ≡ Other → ⊥) → false ≡ is_other o
unfolding is_other
listed Push h = refl
listed Pull h = refl
listed Key h = refl
listed Other h = absurd (h refl)

pub returns-in-Other : goal.returns-in-Other
unfolding is_other
returns-in-Other c = rw c.in-Other.is

pub returns-in_default : goal.returns-in_default
returns-in_default c = listed c.args.self c.in_default.not-Other
