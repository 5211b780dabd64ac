-- The session over calls one after another. Assumes nothing.
use Prim.Native.Nat.{ℕ}
use mathlib.Core.Path.{◌≡◌, refl, sym, ap, ◌∙◌}
use mathlib.Core.Bool.{Bool, true, false, cond, false≢true}
use mathlib.Core.List.{List, [], ◌∷◌}
use mathlib.Core.Logic.{◌⊎◌, inl, inr}
use borrow.Author.Tests.{eqb-true}
use Rattle.tpm.specs.declared.ReturnCode.{ReturnCode}
use Rattle.tpm.specs.declared.Arguments.{Arguments}
use Rattle.tpm.specs.declared.TpmSession.{TpmSession}
use Rattle.tpm.specs.declared.TpmSession.TheVariants.{None, Open}
use Rattle.tpm.specs.ReturnCodes.{is_success}
use Rattle.tpm.specs.Comm.{is_execute, executed_step, closed_step, refused_step, effect_of, comm_of}
use Rattle.tpm.specs.Sequence.{CommCall, comm_step, comm_accepted, session_over, Latest, latest_or, latest_of, OpenExactly}
use Rattle.tpm.specs.Sequence.Latest.{no-operation, operation}

unfoldable pub is_open : TpmSession → Bool
is_open None = false
is_open Open = true

-- whether the session is open after that operation; as at the start if there was none
unfoldable pub opened : Latest → Bool → Bool
opened no-operation start = start
opened (operation n) start = is_execute n

effect-session : (k : ReturnCode) (s : TpmSession) (a : Arguments) (memory response : List ℕ) →
    is_open (effect_of k s a memory response).session ≡ cond (is_success (effect_of k s a memory response).code) (is_execute a.operation)
    (is_open s)
unfolding effect_of executed_step closed_step refused_step is_success is_open
effect-session k s a memory response = go (is_success k) (is_execute a.operation) refl
  where
    go : (b e : Bool) → is_success k ≡ b →
        is_open (cond b (cond e (executed_step a memory response) (closed_step memory)) (refused_step k s memory)).session
        ≡ cond (is_success (cond b (cond e (executed_step a memory response) (closed_step memory)) (refused_step k s memory)).code) e
        (is_open s)
    go true true h = refl
    go true false h = refl
    go false e h = rw h

-- one call
step-session : (s : TpmSession) (x : CommCall) → is_open (comm_step s x).session ≡ cond (comm_accepted s x)
    (is_execute x.asked.operation) (is_open s)
unfolding comm_step comm_accepted comm_of
step-session s x = effect-session _ s x.asked x.memory x.response

opened-latest : (l : Latest) (b : Bool) (n : ℕ) (start : Bool) →
    opened l (cond b (is_execute n) start) ≡ opened (latest_or l (cond b (operation n) no-operation)) start
unfolding opened latest_or
opened-latest no-operation true n start = refl
opened-latest no-operation false n start = refl
opened-latest (operation m) b n start = refl

pub run-session : (s : TpmSession) (xs : List CommCall) → is_open (session_over s xs) ≡ opened (latest_of s xs) (is_open s)
unfolding session_over latest_of opened
run-session s [] = refl
run-session s (x ∷ xs) =
    run-session (comm_step s x).session xs
    ∙ ap (opened (latest_of (comm_step s x).session xs)) (step-session s x)
    ∙ opened-latest (latest_of (comm_step s x).session xs) (comm_accepted s x) x.asked.operation (is_open s)

is-open : (s : TpmSession) → is_open s ≡ true → s ≡ Open
unfolding is_open
is-open None h = absurd (false≢true h)
is-open Open h = refl

opened-by : (l : Latest) (s : TpmSession) → opened l (is_open s) ≡ true → (l ≡ operation 1) ⊎ ((l ≡ no-operation) × (s ≡ Open))
unfolding opened is_execute
opened-by no-operation s h = inr (refl, is-open s h)
opened-by (operation n) s h = inl (ap operation (eqb-true n 1 h))

opens_by : (l : Latest) (s : TpmSession) → (l ≡ operation 1) ⊎ ((l ≡ no-operation) × (s ≡ Open)) → opened l (is_open s) ≡ true
unfolding opened is_execute is_open
opens_by l s (inl e) = rw e
opens_by l s (inr p) = rw (p.0, p.1)

-- over any sequence of calls, from any session: it is open exactly if the last accepted operation is execute, or if no call was accepted and it was
-- open at the start
pub run-open : (s : TpmSession) (xs : List CommCall) → OpenExactly s xs
unfolding is_open
run-open s xs =
    record {
      opens = λ p. is-open (session_over s xs) (run-session s xs ∙ opens_by (latest_of s xs) s p);
      only = λ e. opened-by (latest_of s xs) s (sym (run-session s xs) ∙ ap is_open e);
    }
