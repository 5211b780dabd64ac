-- H_TPM_COMM, the hypervisor's side, as the H_TPM_COMM document has it (TP1 to TP7). Quotes are from request E9. Assumes nothing.
use Rattle.std.specs.Prelude.{ℕ, ◌+◌, Bool, cond, not, List, [], length, leb, ltb, eqb}
use Rattle.words.specs.Tests.{both, either}
use Rattle.words.specs.Word.{part, splice, no_span, span_at}
use Rattle.words.specs.declared.Span.{Span}
use Rattle.tpm.specs.declared.ReturnCode.{ReturnCode}
use Rattle.tpm.specs.declared.ReturnCode.TheVariants.{Success, Function, Parameter, P2, P3, P4, P5, Resource}
use Rattle.tpm.specs.declared.Arguments.{Arguments}
use Rattle.tpm.specs.declared.CommResult.{CommResult}
use Rattle.tpm.specs.declared.TpmSession.{TpmSession}
use Rattle.tpm.specs.declared.TpmSession.TheVariants.{None, Open}
use Rattle.tpm.specs.ReturnCodes.{is_success, returns_if}

-- "operations 1 (execute) and 2 (close)" (TP1)
unfoldable pub is_execute : ℕ → Bool
is_execute operation = eqb operation 1

-- operation 2 (TP1)
unfoldable pub is_close : ℕ → Bool
is_close operation = eqb operation 2

-- ---- the checks; the last argument is the result of the checks after them
-- One buffer in a memory of `n` bytes, "starting at guest address 0" (TP2): its start is inside, its size is not unfit by itself, and its
-- end is not past the memory's end.
unfoldable pub buffer_checks : ReturnCode → ReturnCode → Bool → ℕ → ℕ → ℕ → ReturnCode → ReturnCode
buffer_checks outside badsize unfit start size n rest =
    returns_if (leb n start) outside
    (returns_if (either unfit (ltb n (start + size))) badsize
    rest)

-- "H_P2 (request start not inside memory), H_P3 (size above 4,096 or past memory's end)" (TP3.3, TP3.4)
abbrev pub input_checks : Arguments → ℕ → ReturnCode → ReturnCode
input_checks a n rest = buffer_checks P2 P3 (ltb 4096 a.insize) a.inbuffer a.insize n rest

-- "H_P4 and H_P5 (size below 4,096 or past the end) alike for output" (TP3.5, TP3.6)
abbrev pub output_checks : Arguments → ℕ → ReturnCode → ReturnCode
output_checks a n rest = buffer_checks P4 P5 (ltb a.outsize 4096) a.outbuffer a.outsize n rest

-- the checks of both buffers: the request's, then the output's
unfoldable pub buffers_checks : Arguments → ℕ → ReturnCode → ReturnCode
buffers_checks a n rest = input_checks a n (output_checks a n rest)

-- "H_RESOURCE if the platform reports a fault or a response longer than the output" (TP3.7)
unfoldable pub resource_check : Arguments → List ℕ → Bool → ReturnCode
resource_check a response fault = returns_if (either fault (ltb a.outsize (length response))) Resource Success

-- TP3: "Refusals, in order: H_FUNCTION if the platform forbids access; H_PARAMETER for an operation other than 1 or 2; the rest for execute
-- only"
unfoldable pub call_checks : Arguments → Bool → ReturnCode → ReturnCode
call_checks a forbidden execute =
    returns_if forbidden Function
    (returns_if (not (either (is_execute a.operation) (is_close a.operation))) Parameter
    (cond (is_execute a.operation) execute Success))

-- the checks before H_RESOURCE, in a memory of `n` bytes
unfoldable pub request_code : Arguments → ℕ → Bool → ReturnCode
request_code a n forbidden = call_checks a forbidden (buffers_checks a n Success)

-- all checks (TP3)
unfoldable pub comm_code : Arguments → List ℕ → List ℕ → Bool → Bool → ReturnCode
comm_code a memory response forbidden fault = call_checks a forbidden (buffers_checks a (length memory) (resource_check a response fault))

-- ---- the call
-- the return code, r4, the session after the call and the memory at exit
pub record CommStep : Type 0 where
  pub code : ReturnCode
  pub r4 : ℕ
  pub session : TpmSession
  pub memory : List ℕ

-- what the function returns, and the memory at exit
abbrev pub step_left : CommResult → List ℕ → CommStep
step_left r memory = record { code = r.code; r4 = r.r4; session = r.session; memory = memory }

-- TP4: "The response .. is written at the output address; r4 is its length"; "execute opens one if none is open"
unfoldable pub executed_step : Arguments → List ℕ → List ℕ → CommStep
executed_step a memory response =
    record { code = Success; r4 = length response; session = Open; memory = splice a.outbuffer response memory }

-- TP5: r4 is "0 for close"; "A closed session closes again without complaint"
unfoldable pub closed_step : List ℕ → CommStep
closed_step memory = record { code = Success; r4 = 0; session = None; memory = memory }

-- TP6: "A refused call changes no memory or session."
unfoldable pub refused_step : ReturnCode → TpmSession → List ℕ → CommStep
refused_step k s memory = record { code = k; r4 = 0; session = s; memory = memory }

-- the effect of a call with return code `k`
unfoldable pub effect_of : ReturnCode → TpmSession → Arguments → List ℕ → List ℕ → CommStep
effect_of k s a memory response =
    cond (is_success k) (cond (is_execute a.operation) (executed_step a memory response) (closed_step memory)) (refused_step k s memory)

-- a call: its code by all checks, then its effect
unfoldable pub comm_of : TpmSession → Arguments → List ℕ → List ℕ → Bool → Bool → CommStep
comm_of s a memory response forbidden fault = effect_of (comm_code a memory response forbidden fault) s a memory response

-- ---- the request
-- whether there is a request: an execute that passes the checks before H_RESOURCE
unfoldable pub has_request : Arguments → ℕ → Bool → Bool
has_request a n forbidden = both (is_execute a.operation) (is_success (request_code a n forbidden))

-- TP7: "The request can be asked for as its part of the first slice, empty for close or where a check before H_RESOURCE refuses."
unfoldable pub tpm_request : Arguments → List ℕ → Bool → List ℕ
tpm_request a memory forbidden = cond (has_request a (length memory) forbidden) (part a.inbuffer a.insize memory) []

-- offset and length of the request in a memory of `n` bytes; both 0 if there is no request (TP7)
unfoldable pub tpm_request_span : Arguments → ℕ → Bool → Span
tpm_request_span a n forbidden = cond (has_request a n forbidden) (span_at a.inbuffer a.insize) no_span
