-- The session's word over exported calls. Assumes nothing.
use Prim.Native.Nat.{ℕ}
use mathlib.Core.Path.{◌≡◌, refl, sym, ap, ◌∙◌}
use mathlib.Core.Bool.{Bool, true, false, cond, false≢true}
use mathlib.Core.List.{List, [], ◌∷◌}
use mathlib.Core.Logic.{inl, inr}
use borrow.Author.Tests.{ne_eqb}
use Rattle.tpm.specs.declared.Arguments.{Arguments}
use Rattle.tpm.specs.declared.TpmSession.{TpmSession}
use Rattle.tpm.specs.declared.TpmSession.TheVariants.{None, Open}
use Rattle.tpm.specs.ReturnCodes.{is_success}
use Rattle.tpm.specs.Comm.{CommStep, comm_of}
use Rattle.tpm.proofs.Runs.{is_open}
use Rattle.tpm.specs.Sequence.{comm_step, session_over, Latest, OpenBy}
use Rattle.tpm.proofs.Acts.{comm-refused}
use Rattle.tpm.proofs.Theorems.{open-exactly}
use Rattle.potterbeam_tpm.specs.Exports.{tpm_session_of, tpm_session_word, comm_left, says, comm_in}
use Rattle.potterbeam_tpm.specs.Sequence.{ExportedCall, word_over, comm_calls, WordOpenExactly}

-- a session's word is read back as that session
pub session-back : (s : TpmSession) → tpm_session_of (tpm_session_word s) ≡ s
unfolding tpm_session_of tpm_session_word
session-back None = refl
session-back Open = refl

-- the word after a call reads as the session after it, even if no session has that word
pub word_after : (word : ℕ) (a : Arguments) (memory response : List ℕ) (forbidden fault : ℕ) →
    tpm_session_of (comm_in word a memory response forbidden fault).session ≡ (comm_of (tpm_session_of word) a memory response (says forbidden)
    (says fault)).session
unfolding comm_in comm_left
word_after word a memory response forbidden fault =
    let t : CommStep = comm_of (tpm_session_of word) a memory response (says forbidden) (says fault) in go (is_success t.code) refl
  where
    go : (b : Bool) → is_success (comm_of (tpm_session_of word) a memory response (says forbidden) (says fault)).code ≡ b →
        tpm_session_of (cond b (tpm_session_word (comm_of (tpm_session_of word) a memory response (says forbidden) (says fault)).session) word)
        ≡ (comm_of (tpm_session_of word) a memory response (says forbidden) (says fault)).session
    go true h = session-back _
    go false h = sym (comm-refused (tpm_session_of word) a memory response (says forbidden) (says fault) h).session

-- any sequence of exported calls is a sequence of calls of `tpm::comm`
pub words-over : (w : ℕ) (xs : List ExportedCall) → tpm_session_of (word_over w xs) ≡ session_over (tpm_session_of w) (comm_calls xs)
unfolding word_over session_over comm_calls comm_step
words-over w [] = refl
words-over w (x ∷ xs) =
    words-over (comm_in w x.asked x.memory x.response x.forbidden x.fault).session xs
    ∙ ap (λ (s : TpmSession). session_over s (comm_calls xs)) (word_after w x.asked x.memory x.response x.forbidden x.fault)

word-open : (w : ℕ) → (w ≡ 0 → ⊥) → tpm_session_of w ≡ Open
unfolding tpm_session_of
word-open w n = rw (ne_eqb w 0 n)

open-word : (w : ℕ) → tpm_session_of w ≡ Open → w ≡ 0 → ⊥
unfolding tpm_session_of is_open
open-word w h e = false≢true (ap is_open (ap tpm_session_of (sym e) ∙ h))

open_by : (l : Latest) (A B : Type 0) → (A → B) → OpenBy l A → OpenBy l B
open_by l A B f (inl e) = inl e
open_by l A B f (inr p) = inr (p.0, f p.1)

-- so `open-exactly` of crate tpm holds for the word
pub word-open-exactly : (w : ℕ) (xs : List ExportedCall) → WordOpenExactly w xs
word-open-exactly w xs =
    record {
      opens =
          λ p. open-word (word_over w xs) (words-over w xs ∙ (open-exactly (tpm_session_of w) (comm_calls xs)).opens
          (open_by _ _ _ (word-open w) p));
      only =
          λ n. open_by _ _ _ (open-word w) ((open-exactly (tpm_session_of w) (comm_calls xs)).only
          (sym (words-over w xs) ∙ word-open (word_over w xs) n));
    }
