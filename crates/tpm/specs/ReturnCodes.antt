-- The return codes of H_TPM_COMM, whose document has "r3 : H_Success .. H_FUNCTION". Request E9: "Answers are by name." (TP3) Assumes
-- nothing.
use Rattle.std.specs.Prelude.{Bool, true, false, ℤ, pos, negsuc, Result, Ok, Err}
use Rattle.tpm.specs.declared.ReturnCode.{ReturnCode}
use Rattle.tpm.specs.declared.ReturnCode.TheVariants.{Success, Function, Parameter, P2, P3, P4, P5, Resource}

-- their numbers, which are PAPR's (TP3): the H_TPM_COMM document gives none; `negsuc n` is -(n + 1)
abbrev pub hcall_number : ReturnCode → ℤ
hcall_number Success = pos 0
hcall_number Function = negsuc 1
hcall_number Parameter = negsuc 3
hcall_number Resource = negsuc 15
hcall_number P2 = negsuc 54
hcall_number P3 = negsuc 55
hcall_number P4 = negsuc 56
hcall_number P5 = negsuc 57

-- whether the code is H_SUCCESS
unfoldable pub is_success : ReturnCode → Bool
is_success Success = true
is_success Function = false
is_success Parameter = false
is_success Resource = false
is_success P2 = false
is_success P3 = false
is_success P4 = false
is_success P5 = false

-- a check: code `k` if the test holds, otherwise the result of the checks after it
unfoldable pub returns_if : Bool → ReturnCode → ReturnCode → ReturnCode
returns_if true k rest = k
returns_if false k rest = rest

-- the code of some checks: H_SUCCESS if none refuses
abbrev pub code_of : Result (Unit {0}) ReturnCode → ReturnCode
code_of (Ok u) = Success
code_of (Err k) = k
