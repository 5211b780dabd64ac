-- The return code of a number in r3. Assumes nothing.
use mathlib.Core.Path.{◌≡◌, refl}
use mathlib.Core.Bool.{cond}
use lib.Dec.{eqb}
use lib.IntN.{ℤ, pos, negsuc}
use Rattle.tpm.specs.declared.ReturnCode.{ReturnCode}
use Rattle.tpm.specs.declared.ReturnCode.TheVariants.{Success, Function, Parameter, P2, P3, P4, P5, Resource}
use Rattle.tpm.specs.ReturnCodes.{hcall_number}

abbrev pub code_numbered : ℤ → ReturnCode
code_numbered (pos n) = Success
code_numbered (negsuc n) =
    cond (eqb n 1) Function (cond (eqb n 3) Parameter (cond (eqb n 15) Resource
    (cond (eqb n 54) P2 (cond (eqb n 55) P3 (cond (eqb n 56) P4 P5)))))

pub numbered-named : (k : ReturnCode) → code_numbered (hcall_number k) ≡ k
numbered-named Success = refl
numbered-named Function = refl
numbered-named Parameter = refl
numbered-named Resource = refl
numbered-named P2 = refl
numbered-named P3 = refl
numbered-named P4 = refl
numbered-named P5 = refl
