-- request E9, over the definitions that the promises of H_TPM_COMM cite. Assumes nothing.
use Prim.Native.Nat.{ℕ}
use mathlib.Core.Path.{◌≡◌, sym, ap, ◌∙◌}
use mathlib.Core.Bool.{Bool, false}
use mathlib.Core.List.{List, []}
use lib.ListN.{length}
use Rattle.words.specs.Word.{part, spanned}
use Rattle.tpm.specs.declared.ReturnCode.{ReturnCode}
use Rattle.tpm.specs.declared.ReturnCode.TheVariants.{Success}
use Rattle.tpm.specs.declared.Arguments.{Arguments}
use Rattle.tpm.specs.declared.TpmSession.{TpmSession}
use Rattle.tpm.specs.declared.TpmSession.TheVariants.{None}
use Rattle.tpm.specs.ReturnCodes.{hcall_number, is_success}
use Rattle.tpm.specs.Comm.{comm_of, tpm_request, tpm_request_span}
use Rattle.tpm.specs.Claims.{Placed, CommAccepts, Reached, Reason, Unchanged, Written}
use Rattle.tpm.specs.Sequence.{CommCall, OpenExactly}
use Rattle.tpm.proofs.Acts.{comm-refused, comm-reason, comm-accepted, comm-writes, comm-closed, request-is, request-none}
use Rattle.tpm.proofs.Acts.{request-spanned}
use Rattle.tpm.proofs.Runs.{run-open}
use Rattle.tpm.proofs.Numbers.{code_numbered, numbered-named}

-- one call, from any session, for any arguments, memory and response, and any flags of the platform
pub record CommTheorems (s : TpmSession) (a : Arguments) (memory response : List ℕ) (forbidden fault : Bool) : Type 0 where
  -- TP6: "A refused call changes no memory or session."
  pub refused-changes-nothing : is_success (comm_of s a memory response forbidden fault).code ≡ false →
      Unchanged s memory (comm_of s a memory response forbidden fault)
  -- TP3: "Refusals, in order: ..": each code comes for its own reason, and no earlier reason holds
  pub refused-with-reason : Reason a memory response forbidden fault (comm_of s a memory response forbidden fault).code
  -- no other call is refused
  pub accepted-otherwise : CommAccepts a memory response forbidden fault → (comm_of s a memory response forbidden fault).code ≡ Success
  -- TP4: "The response comes from the platform in a second slice and is written at the output address; r4 is its length": no other byte
  -- changes. "execute opens one if none is open"
  pub execute-writes-response-only : (comm_of s a memory response forbidden fault).code ≡ Success → a.operation ≡ 1 →
      Written a.outbuffer memory response (comm_of s a memory response forbidden fault)
  -- TP5: r4 is "0 for close"; "A closed session closes again without complaint"
  pub close-closes : forbidden ≡ false → a.operation ≡ 2 →
      ((comm_of s a memory response forbidden fault).code ≡ Success) × Unchanged None memory (comm_of s a memory response forbidden fault)

pub comm-theorems : (s : TpmSession) (a : Arguments) (memory response : List ℕ) (forbidden fault : Bool) →
    CommTheorems s a memory response forbidden fault
comm-theorems s a memory response forbidden fault =
    record {
      refused-changes-nothing = comm-refused s a memory response forbidden fault;
      refused-with-reason = comm-reason s a memory response forbidden fault;
      accepted-otherwise = comm-accepted s a memory response forbidden fault;
      execute-writes-response-only = comm-writes s a memory response forbidden fault;
      close-closes = comm-closed s a memory response forbidden fault;
    }

-- TP9: "A closed session closes again without complaint; execute opens one if none is open." Over any sequence of calls, from any session:
-- it is open exactly if the last accepted operation is execute, or no call was accepted and it was open at the start.
pub open-exactly : (s : TpmSession) (xs : List CommCall) → OpenExactly s xs
open-exactly = run-open

-- TP7: "The request can be asked for as its part of the first slice, empty for close or where a check before H_RESOURCE refuses.": its part
-- for an execute that the platform allows with both buffers in place, empty for any other call
pub record RequestTheorems (a : Arguments) (memory : List ℕ) (forbidden : Bool) : Type 0 where
  pub request-is-its-part : Reached a forbidden → Placed a (length memory) →
      tpm_request a memory forbidden ≡ part a.inbuffer a.insize memory
  pub request-is-empty : (Reached a forbidden → Placed a (length memory) → ⊥) → tpm_request a memory forbidden ≡ []
  pub request-is-placed : spanned (tpm_request_span a (length memory) forbidden) memory ≡ tpm_request a memory forbidden

pub request-theorems : (a : Arguments) (memory : List ℕ) (forbidden : Bool) → RequestTheorems a memory forbidden
request-theorems a memory forbidden =
    record {
      request-is-its-part = request-is a memory forbidden;
      request-is-empty = request-none a memory forbidden;
      request-is-placed = request-spanned a memory forbidden;
    }

-- "Answers are by name": each code has its own number, so r3 identifies it, and only 0 is H_SUCCESS
pub numbers-differ : (j k : ReturnCode) → hcall_number j ≡ hcall_number k → j ≡ k
numbers-differ j k e = sym (numbered-named j) ∙ ap code_numbered e ∙ numbered-named k
