use mathlib.Core.Path.{◌≡◌, refl}
use mathlib.Core.Bool.{false}
use Rattle.boot.specs.declared.Params.{Params}
use Rattle.boot.specs.declared.Record.{Record}
use Rattle.boot.specs.declared.Record.TheVariants.{Fresh, Up, Closed}
use Rattle.codes.specs.Codes.{is_up}
use Rattle.codes.proofs.is_up.Goals as goal

not_up : (r : Record) → ((u : Params) → r ≡ Up u → ⊥) → false ≡ is_up r
unfolding is_up
not_up Fresh h = refl
not_up (Up u) h = absurd (h u refl)
not_up Closed h = refl

pub returns-in-Up : goal.returns-in-Up
unfolding is_up
returns-in-Up c = cc

pub returns-in_default : goal.returns-in_default
returns-in_default c = not_up c.args.state c.in_default.not-Up
