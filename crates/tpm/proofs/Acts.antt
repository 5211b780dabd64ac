-- A refusal changes nothing; what an accepted call does. Assumes nothing.
use Prim.Native.Nat.{ℕ, ◌≤◌}
use mathlib.Core.Path.{◌≡◌, refl, sym, ap, subst, ◌∙◌}
use mathlib.Core.Bool.{Bool, true, false, cond}
use mathlib.Core.List.{List, []}
use mathlib.Core.Logic.{◌⊎◌, inl, inr}
use native.Mathlib.Omega.{arith}
use lib.ListN.{length}
use borrow.Author.Tests.{eq-eqb}
use Rattle.words.specs.Tests.{both, either}
use Rattle.words.specs.Word.{part, no_span, span_at, spanned, span_start}
use Rattle.words.proofs.Store.{front-splice, drop-splice, part-splice, span_none, span-in, start_none, start-in}
use Rattle.tpm.specs.declared.ReturnCode.{ReturnCode}
use Rattle.tpm.specs.declared.ReturnCode.TheVariants.{Success}
use Rattle.tpm.specs.declared.Arguments.{Arguments}
use Rattle.tpm.specs.declared.TpmSession.{TpmSession}
use Rattle.tpm.specs.declared.TpmSession.TheVariants.{None}
use Rattle.tpm.specs.ReturnCodes.{is_success, returns_if}
use Rattle.tpm.specs.Comm.{is_execute, call_checks, request_code, comm_code, executed_step, closed_step, refused_step, effect_of, comm_of}
use Rattle.tpm.specs.Comm.{has_request, tpm_request, tpm_request_span}
use Rattle.tpm.specs.Claims.{Placed, Executes, CommAccepts, Reached, Reason, Unchanged, Written}
use Rattle.tpm.proofs.Chains.{success-is}
use Rattle.tpm.proofs.Checks.{buffers-in, has-placed, has-reached, accepted-if}
use Rattle.tpm.proofs.Reasons.{comm-why, accepts}

effect-code : (k : ReturnCode) (s : TpmSession) (a : Arguments) (memory response : List ℕ) → (effect_of k s a memory response).code ≡ k
unfolding effect_of executed_step closed_step refused_step
effect-code k s a memory response = go (is_success k) (is_execute a.operation) refl
  where
    go : (b e : Bool) → is_success k ≡ b → (cond b (cond e (executed_step a memory response) (closed_step memory))
        (refused_step k s memory)).code ≡ k
    go true true h = sym (success-is k h)
    go true false h = sym (success-is k h)
    go false e h = refl

module _ (s : TpmSession) (a : Arguments) (memory response : List ℕ) (forbidden fault : Bool) where
  code_is : (comm_of s a memory response forbidden fault).code ≡ comm_code a memory response forbidden fault
  unfolding comm_of
  code_is = effect-code _ s a memory response

  -- "A refused call changes no memory or session."
  pub comm-refused : is_success (comm_of s a memory response forbidden fault).code ≡ false →
      Unchanged s memory (comm_of s a memory response forbidden fault)
  unfolding comm_of effect_of refused_step
  comm-refused h = rw (ap is_success (sym code_is) ∙ h) (record { none = refl; session = refl; memory-same = refl })

  -- a refusal happens only for its reason in TP3, and only if no earlier reason holds
  pub comm-reason : Reason a memory response forbidden fault (comm_of s a memory response forbidden fault).code
  comm-reason = subst (Reason a memory response forbidden fault) (sym code_is) (comm-why a memory response forbidden fault)

  -- a call succeeds exactly if TP3 has no refusal for it
  pub comm-accepts : (comm_of s a memory response forbidden fault).code ≡ Success → CommAccepts a memory response forbidden fault
  comm-accepts h = accepts a memory response forbidden fault (sym code_is ∙ h)

  pub comm-accepted : CommAccepts a memory response forbidden fault → (comm_of s a memory response forbidden fault).code ≡ Success
  comm-accepted p = code_is ∙ accepted-if a memory response forbidden fault p

  -- what holds for an accepted execute
  executes : (comm_of s a memory response forbidden fault).code ≡ Success → a.operation ≡ 1 → Executes a memory response fault
  executes h e = go (comm-accepts h).kind
    where
      go : (a.operation ≡ 2) ⊎ Executes a memory response fault → Executes a memory response fault
      go (inl c) = absurd (omega arith)
      go (inr x) = x

  -- "The response .. is written at the output address; r4 is its length"; "execute opens one if none is open"
  pub comm-writes : (comm_of s a memory response forbidden fault).code ≡ Success → a.operation ≡ 1 →
      Written a.outbuffer memory response (comm_of s a memory response forbidden fault)
  unfolding comm_of effect_of is_success is_execute executed_step
  comm-writes h e =
      let at : ℕ = a.outbuffer in
      let l : at ≤ length memory = omega (arith, (executes h e).placed.output.begins) in
      rw (sym code_is ∙ h, eq-eqb a.operation 1 e)
      (record {
        told = refl;
        session = refl;
        there = part-splice at response memory l;
        before = front-splice at response memory l;
        behind = drop-splice at response memory l;
      })

  -- "A closed session closes again without complaint"; "r4 is .. 0 for close"
  pub comm-closed : forbidden ≡ false → a.operation ≡ 2 →
      ((comm_of s a memory response forbidden fault).code ≡ Success) × Unchanged None memory (comm_of s a memory response forbidden fault)
  unfolding comm_of effect_of is_success is_execute closed_step
  comm-closed f e =
      rw (accepted-if a memory response forbidden fault (record { allowed = f; kind = inl e }), e)
      (refl, record { none = refl; session = refl; memory-same = refl })

-- ---- the request
-- "as its part of the first slice": for any fault and response of the platform
pub request-is : (a : Arguments) (memory : List ℕ) (forbidden : Bool) → Reached a forbidden → Placed a (length memory) →
    tpm_request a memory forbidden ≡ part a.inbuffer a.insize memory
unfolding tpm_request has_request request_code call_checks returns_if is_execute is_success both either
request-is a memory forbidden r p = rw (r.allowed, eq-eqb a.operation 1 r.execute, buffers-in a (length memory) Success p)

-- "empty for close or where a check before H_RESOURCE refuses"
pub request-none : (a : Arguments) (memory : List ℕ) (forbidden : Bool) → (Reached a forbidden → Placed a (length memory) → ⊥) →
    tpm_request a memory forbidden ≡ []
unfolding tpm_request
request-none a memory forbidden n = go (has_request a (length memory) forbidden) refl
  where
    go : (b : Bool) → has_request a (length memory) forbidden ≡ b → cond b (part a.inbuffer a.insize memory) [] ≡ []
    go true h = absurd (n (has-reached a (length memory) forbidden h) (has-placed a (length memory) forbidden h))
    go false h = refl

-- the span is the request
pub request-spanned : (a : Arguments) (memory : List ℕ) (forbidden : Bool) →
    spanned (tpm_request_span a (length memory) forbidden) memory ≡ tpm_request a memory forbidden
unfolding tpm_request_span tpm_request
request-spanned a memory forbidden = go (has_request a (length memory) forbidden) refl
  where
    go : (b : Bool) → has_request a (length memory) forbidden ≡ b →
        spanned (cond b (span_at a.inbuffer a.insize) no_span) memory ≡ cond b (part a.inbuffer a.insize memory) []
    go true h = span-in a.inbuffer a.insize memory (has-placed a (length memory) forbidden h).input.ends
    go false h = span_none memory

-- the request starts at its own offset
pub request-starts : (a : Arguments) (memory : List ℕ) (forbidden : Bool) →
    span_start (tpm_request_span a (length memory) forbidden) memory ≡ (tpm_request_span a (length memory) forbidden).at
unfolding tpm_request_span
request-starts a memory forbidden = go (has_request a (length memory) forbidden) refl
  where
    go : (b : Bool) → has_request a (length memory) forbidden ≡ b →
        span_start (cond b (span_at a.inbuffer a.insize) no_span) memory ≡ (cond b (span_at a.inbuffer a.insize) no_span).at
    go true h = start-in a.inbuffer a.insize memory (has-placed a (length memory) forbidden h).input.ends
    go false h = start_none memory
