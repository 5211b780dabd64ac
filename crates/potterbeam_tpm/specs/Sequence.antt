-- Exported calls one after another, each on the session's word that the call before it left. Assumes nothing.
use Rattle.std.specs.Prelude.{ℕ, ◌≡◌, List, [], ◌∷◌}
use Rattle.tpm.specs.declared.Arguments.{Arguments}
use Rattle.tpm.specs.Sequence.{CommCall, latest_of, OpenBy}
use Rattle.potterbeam_tpm.specs.Exports.{tpm_session_of, says, comm_in}

-- everything that an exported call gets except the word
pub record ExportedCall : Type 0 where
  pub asked : Arguments
  pub memory : List ℕ
  pub response : List ℕ
  pub forbidden : ℕ
  pub fault : ℕ

-- the word after all calls
unfoldable pub word_over : ℕ → List ExportedCall → ℕ
word_over w [] = w
word_over w (x ∷ xs) = word_over (comm_in w x.asked x.memory x.response x.forbidden x.fault).session xs

-- the same calls as `tpm::comm` sees them
unfoldable pub comm_calls : List ExportedCall → List CommCall
comm_calls [] = []
comm_calls (x ∷ xs) =
    record { asked = x.asked; memory = x.memory; response = x.response; forbidden = says x.forbidden; fault = says x.fault } ∷
    comm_calls xs

-- TP9: the word is not 0 exactly if the last accepted operation is execute, or no call was accepted and it was not 0 at the start
pub record WordOpenExactly (w : ℕ) (xs : List ExportedCall) : Type 0 where
  pub opens : OpenBy (latest_of (tpm_session_of w) (comm_calls xs)) (w ≡ 0 → ⊥) → word_over w xs ≡ 0 → ⊥
  pub only : (word_over w xs ≡ 0 → ⊥) → OpenBy (latest_of (tpm_session_of w) (comm_calls xs)) (w ≡ 0 → ⊥)
