-- The effect of a call, by its return code. Assumes nothing.
use Prim.Native.Nat.{ℕ, ◌≤◌}
use mathlib.Core.Path.{◌≡◌, sym, ◌∙◌}
use mathlib.Core.Bool.{Bool, true, false}
use mathlib.Core.List.{List}
use lib.ListN.{length}
use lib.Dec.{ltb}
use borrow.Author.Tests.{eq-eqb, ne_eqb, le-ltb}
use Rattle.words.specs.Tests.{either}
use Rattle.words.specs.Word.{splice}
use Rattle.tpm.specs.declared.ReturnCode.TheVariants.{Success, Resource}
use Rattle.tpm.specs.declared.Arguments.{Arguments}
use Rattle.tpm.specs.declared.TpmSession.{TpmSession}
use Rattle.tpm.specs.declared.TpmSession.TheVariants.{Open}
use Rattle.tpm.specs.ReturnCodes.{is_success, returns_if}
use Rattle.tpm.specs.Comm.{is_execute, resource_check, request_code, executed_step, closed_step, refused_step, effect_of, comm_of}
use Rattle.tpm.proofs.Chains.{on_success}
use Rattle.tpm.proofs.Checks.{comm-then}

module _ (s : TpmSession) (a : Arguments) (memory response : List ℕ) (forbidden fault : Bool) where
  -- a check before H_RESOURCE refuses
  pub comm-stops : is_success (request_code a (length memory) forbidden) ≡ false →
      comm_of s a memory response forbidden fault ≡ refused_step (request_code a (length memory) forbidden) s memory
  unfolding comm_of effect_of on_success
  comm-stops h = rw (comm-then a memory response forbidden fault, h, h)

  -- none refuses, and the call is no execute
  pub comm-closes : is_success (request_code a (length memory) forbidden) ≡ true → (a.operation ≡ 1 → ⊥) →
      comm_of s a memory response forbidden fault ≡ closed_step memory
  unfolding comm_of effect_of on_success is_execute is_success
  comm-closes h n = rw (comm-then a memory response forbidden fault, h, ne_eqb a.operation 1 n)

  -- none refuses, and H_RESOURCE decides
  comm-execute : is_success (request_code a (length memory) forbidden) ≡ true → a.operation ≡ 1 →
      comm_of s a memory response forbidden fault ≡ effect_of (resource_check a response fault) s a memory response
  unfolding comm_of on_success is_execute
  comm-execute h e = rw (comm-then a memory response forbidden fault, h, eq-eqb a.operation 1 e)

  pub comm-faults : is_success (request_code a (length memory) forbidden) ≡ true → a.operation ≡ 1 →
      either fault (ltb a.outsize (length response)) ≡ true →
      comm_of s a memory response forbidden fault ≡ refused_step Resource s memory
  unfolding resource_check returns_if effect_of is_success
  comm-faults h e f = comm-execute h e ∙ rw f

  pub comm-executes : is_success (request_code a (length memory) forbidden) ≡ true → a.operation ≡ 1 → fault ≡ false →
      length response ≤ a.outsize →
      comm_of s a memory response forbidden fault ≡ executed_step a memory response
  unfolding resource_check returns_if either effect_of is_success is_execute
  comm-executes h e f l = comm-execute h e ∙ rw (f, le-ltb a.outsize (length response) l, eq-eqb a.operation 1 e)

  -- as the code leaves it: the memory at entry, overwritten by the response
  pub comm-leaves : (left : List ℕ) → left ≡ splice a.outbuffer response memory →
      is_success (request_code a (length memory) forbidden) ≡ true → a.operation ≡ 1 → fault ≡ false → length response ≤ a.outsize →
      record { code = Success; r4 = length response; session = Open; memory = left } ≡ comm_of s a memory response forbidden fault
  unfolding executed_step
  comm-leaves left w h e f l = rw w (sym (comm-executes h e f l))
