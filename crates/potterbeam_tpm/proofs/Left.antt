-- What a call leaves at the C edge, from what `tpm::comm` returns. Assumes nothing.
use Prim.Native.Nat.{ℕ}
use mathlib.Core.Path.{◌≡◌, ap}
use mathlib.Core.Bool.{Bool, cond}
use mathlib.Core.List.{List}
use lib.IntN.{ℤ}
use Rattle.tpm.specs.declared.Arguments.{Arguments}
use Rattle.tpm.specs.declared.CommResult.{CommResult}
use Rattle.tpm.specs.declared.TpmSession.{TpmSession}
use Rattle.tpm.specs.ReturnCodes.{hcall_number, is_success}
use Rattle.tpm.specs.Comm.{CommStep, comm_of, step_left}
use Rattle.potterbeam_tpm.specs.Exports.{tpm_session_of, tpm_session_word, left_by, comm_left, says, comm_in}

pub left_is : (r3 : ℤ) (r : CommResult) (word next : ℕ) (before memory response : List ℕ) (a : Arguments) (forbidden fault : ℕ) →
    r3 ≡ hcall_number r.code → next ≡ cond (is_success r.code) (tpm_session_word r.session) word →
    (s : TpmSession) (p q : Bool) → s ≡ tpm_session_of word → p ≡ says forbidden → q ≡ says fault →
    step_left r memory ≡ comm_of s a before response p q →
    left_by r3 r.r4 next memory ≡ comm_in word a before response forbidden fault
unfolding comm_in comm_left
left_is r3 r word next before memory response a forbidden fault n h s p q cs cp cq e =
    rw (n, h, ← cs, ← cp, ← cq) (ap (λ (t : CommStep). comm_left t word) e)
