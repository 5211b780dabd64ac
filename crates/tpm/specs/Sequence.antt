-- Calls of H_TPM_COMM one after another, and the session over them (TP9). Assumes nothing.
use Rattle.std.specs.Prelude.{ℕ, ◌≡◌, Bool, cond, List, [], ◌∷◌, ◌⊎◌}
use Rattle.tpm.specs.declared.Arguments.{Arguments}
use Rattle.tpm.specs.declared.TpmSession.{TpmSession}
use Rattle.tpm.specs.declared.TpmSession.TheVariants.{Open}
use Rattle.tpm.specs.ReturnCodes.{is_success}
use Rattle.tpm.specs.Comm.{CommStep, comm_of}

-- Everything that a call gets except the session. The memory is the one at that call: the guest may write it between two calls.
pub record CommCall : Type 0 where
  pub asked : Arguments
  pub memory : List ℕ
  pub response : List ℕ
  pub forbidden : Bool
  pub fault : Bool

-- one call
unfoldable pub comm_step : TpmSession → CommCall → CommStep
comm_step s x = comm_of s x.asked x.memory x.response x.forbidden x.fault

-- whether a call is accepted
unfoldable pub comm_accepted : TpmSession → CommCall → Bool
comm_accepted s x = is_success (comm_step s x).code

-- the session after all calls, starting from `s`
unfoldable pub session_over : TpmSession → List CommCall → TpmSession
session_over s [] = s
session_over s (x ∷ xs) = session_over (comm_step s x).session xs

-- the operation of the last accepted call, if there is one
pub data Latest : Type 0 where
  no-operation : Latest
  operation : ℕ → Latest

-- the first if it has an operation, otherwise `before`
unfoldable pub latest_or : Latest → Latest → Latest
latest_or no-operation before = before
latest_or (operation n) before = operation n

-- the last accepted operation of a sequence
unfoldable pub latest_of : TpmSession → List CommCall → Latest
latest_of s [] = no-operation
latest_of s (x ∷ xs) =
    latest_or (latest_of (comm_step s x).session xs) (cond (comm_accepted s x) (operation x.asked.operation) no-operation)

-- the last accepted operation is execute, or no call was accepted and `start` holds (TP9)
abbrev pub OpenBy : Latest → Type 0 → Type 0
OpenBy l start = (l ≡ operation 1) ⊎ ((l ≡ no-operation) × start)

-- TP9: the session is open exactly if the last accepted operation is execute, or no call was accepted and it was open at the start
pub record OpenExactly (s : TpmSession) (xs : List CommCall) : Type 0 where
  pub opens : OpenBy (latest_of s xs) (s ≡ Open) → session_over s xs ≡ Open
  pub only : session_over s xs ≡ Open → OpenBy (latest_of s xs) (s ≡ Open)
