-- H_TPM_COMM as C sees it: numbers, lent words and bytes. Assumes nothing.
use Rattle.std.specs.Prelude.{ℕ, Bool, cond, not, List, [], ◌∷◌, eqb, ℤ}
use Rattle.words.specs.declared.Span.{Span}
use Rattle.tpm.specs.declared.Arguments.{Arguments}
use Rattle.tpm.specs.declared.TpmSession.{TpmSession}
use Rattle.tpm.specs.declared.TpmSession.TheVariants.{None, Open}
use Rattle.tpm.specs.ReturnCodes.{hcall_number, is_success}
use Rattle.tpm.specs.Comm.{CommStep, comm_of}

-- ---- the arguments, in the order of TP1
abbrev pub arguments_of : (operation inbuffer insize outbuffer outsize : ℕ) → Arguments
arguments_of operation inbuffer insize outbuffer outsize =
    record { operation = operation; inbuffer = inbuffer; insize = insize; outbuffer = outbuffer; outsize = outsize }

-- ---- the session as a word: 0 none, any other number open (CE1)
unfoldable pub tpm_session_of : ℕ → TpmSession
tpm_session_of w = cond (eqb w 0) None Open

-- the word of a session: 0 none, 1 open
unfoldable pub tpm_session_word : TpmSession → ℕ
tpm_session_word None = 0
tpm_session_word Open = 1

-- ---- a call: r3, r4, the session's word and the memory at exit. A refused call leaves the word unchanged, for any word.
pub record CommLeft : Type 0 where
  pub r3 : ℤ
  pub r4 : ℕ
  pub session : ℕ
  pub memory : List ℕ

-- what a call leaves, from its step and the session's word at entry
unfoldable pub comm_left : CommStep → ℕ → CommLeft
comm_left t word =
    record {
      r3 = hcall_number t.code;
      r4 = t.r4;
      session = cond (is_success t.code) (tpm_session_word t.session) word;
      memory = t.memory;
    }

-- what the function leaves: its return value, then each lent word and the memory at exit
abbrev pub left_by : ℤ → ℕ → ℕ → List ℕ → CommLeft
left_by r3 r4 session memory = record { r3 = r3; r4 = r4; session = session; memory = memory }

-- a flag of the platform: any number except 0 is true (CE2)
unfoldable pub says : ℕ → Bool
says flag = not (eqb flag 0)

-- an exported call
unfoldable pub comm_in : ℕ → Arguments → List ℕ → List ℕ → ℕ → ℕ → CommLeft
comm_in word a memory response forbidden fault = comm_left (comm_of (tpm_session_of word) a memory response (says forbidden) (says fault)) word

-- ---- offset and length of the request, as two words
unfoldable pub place_words : Span → List ℕ
place_words p = p.at ∷ p.len ∷ []
