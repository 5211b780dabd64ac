use mathlib.Core.Path.{sym, ap}
use mathlib.Core.Logic.{inl, inr}
use Rattle.codes.specs.Codes.{boot_params}
use Rattle.codes.proofs.boot_params.Goals as goal

pub returns-in-Up : goal.returns-in-Up
unfolding boot_params
returns-in-Up c = sym (ap boot_params c.in-Up.is)

pub returns-in-Fresh : goal.returns-in-Fresh
unfolding boot_params
returns-in-Fresh c = elim c.in-Fresh.is [ inl e ↦ sym (ap boot_params e) | inr e ↦ sym (ap boot_params e) ]
