-- The number (RT1) of a row of checks: that of the first check that fails. Assumes nothing.
use Prim.Native.Nat.{ℕ}
use mathlib.Core.Path.{◌≡◌, refl}
use mathlib.Core.Bool.{Bool, true, false, cond, not}
use Rattle.codes.specs.Codes.{number_of, is_ok, is_false, fails, and_then, gated, gate_number}
use Rattle.codes.specs.declared.Code.{Code}
use Rattle.codes.specs.declared.Code.TheVariants.{Ok, Unk, BadAddr, BadPas, Inval, Again}

pub number-fails : (b : Bool) (c next : Code) → number_of (fails b c next) ≡ cond b (number_of c) (number_of next)
unfolding fails
number-fails true c next = refl
number-fails false c next = refl

pub number-unless : (b : Bool) (c next : Code) → number_of (fails (is_false b) c next) ≡ cond (not b) (number_of c) (number_of next)
unfolding fails is_false
number-unless true c next = refl
number-unless false c next = refl

pub number-then : (k next : Code) → number_of (and_then k next) ≡ cond (not (is_ok k)) (number_of k) (number_of next)
unfolding and_then
number-then Ok next = refl
number-then Unk next = refl
number-then BadAddr next = refl
number-then BadPas next = refl
number-then Inval next = refl
number-then Again next = refl

pub number-gated : {A : Type 0} (k : Code) (n : A) → gate_number (gated k n) ≡ number_of k
unfolding gated
number-gated Ok n = refl
number-gated Unk n = refl
number-gated BadAddr n = refl
number-gated BadPas n = refl
number-gated Inval n = refl
number-gated Again n = refl

-- no check after the row
pub then-last : (k : Code) → and_then k Ok ≡ k
unfolding and_then
then-last Ok = refl
then-last Unk = refl
then-last BadAddr = refl
then-last BadPas = refl
then-last Inval = refl
then-last Again = refl
