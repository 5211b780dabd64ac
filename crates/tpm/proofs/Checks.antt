-- The checks of H_TPM_COMM, one by one. Assumes nothing.
use Prim.Native.Nat.{ℕ, ◌+◌}
use mathlib.Core.Path.{◌≡◌, refl, sym, ap, ◌∙◌}
use mathlib.Core.Bool.{Bool, true, false, cond, not, false≢true}
use mathlib.Core.List.{List}
use mathlib.Core.Logic.{◌⊎◌, inl, inr}
use lib.ListN.{length}
use lib.Dec.{leb, ltb}
use borrow.Author.Tests.{ltb-false, leb-false, eqb-true, lt-leb, le-ltb, eq-eqb}
use Rattle.words.specs.Tests.{either}
use Rattle.words.proofs.Tests.{both_l, both_r}
use Rattle.tpm.specs.declared.ReturnCode.{ReturnCode}
use Rattle.tpm.specs.declared.ReturnCode.TheVariants.{Success, Function, Parameter, P2, P3, P4, P5}
use Rattle.tpm.specs.declared.Arguments.{Arguments}
use Rattle.tpm.specs.ReturnCodes.{is_success, returns_if}
use Rattle.tpm.specs.Comm.{is_execute, is_close, buffer_checks, input_checks, output_checks, buffers_checks, resource_check, call_checks}
use Rattle.tpm.specs.Comm.{request_code, comm_code, has_request}
use Rattle.tpm.specs.Claims.{Within, Placed, Executes, CommAccepts, Reached}
use Rattle.tpm.proofs.Chains.{on_success, success-is, returns-ok, Continues, returns-on, both-on, on-stops, on-goes}

-- ---- one buffer
pub buffer-on : (o w : ReturnCode) → is_success o ≡ false → is_success w ≡ false → (t : Bool) (start size n : ℕ) →
    Continues (buffer_checks o w t start size n)
unfolding buffer_checks
buffer-on o w p q t start size n =
    both-on (returns_if (leb n start) o) (returns_if (either t (ltb n (start + size))) w) (returns-on _ o p) (returns-on _ w q)

-- what a success implies about the buffer before it
pub record Passed (t : Bool) (start size n : ℕ) (rest : ReturnCode) : Type 0 where
  pub fit : t ≡ false
  pub within : Within start size n
  pub after : rest ≡ Success

pub either-no : (a b : Bool) → either a b ≡ false → (a ≡ false) × (b ≡ false)
unfolding either
either-no true b h = absurd (false≢true (sym h))
either-no false b h = (refl, h)

pub buffer-ok : (o w : ReturnCode) → is_success o ≡ false → is_success w ≡ false → (t : Bool) (start size n : ℕ) (rest : ReturnCode) →
    buffer_checks o w t start size n rest ≡ Success →
    Passed t start size n rest
unfolding buffer_checks
buffer-ok o w p q t start size n rest h =
    let i = returns-ok _ o _ p h in
    let j = returns-ok _ w _ q i.1 in
    let e = either-no _ _ j.0 in
    record { fit = e.0; within = record { begins = leb-false _ _ i.0; ends = ltb-false _ _ e.1 }; after = j.1 }

pub buffer-in : (o w : ReturnCode) (t : Bool) (start size n : ℕ) (rest : ReturnCode) → t ≡ false → Within start size n →
    buffer_checks o w t start size n rest ≡ rest
unfolding buffer_checks returns_if either
buffer-in o w t start size n rest e i = rw (lt-leb n start i.begins, e, le-ltb n (start + size) i.ends)

-- ---- both buffers
input-on : (a : Arguments) (n : ℕ) → Continues (input_checks a n)
unfolding is_success
input-on a n = buffer-on P2 P3 refl refl _ _ _ n

output_on : (a : Arguments) (n : ℕ) → Continues (output_checks a n)
unfolding is_success
output_on a n = buffer-on P4 P5 refl refl _ _ _ n

buffers-on : (a : Arguments) (n : ℕ) → Continues (buffers_checks a n)
unfolding buffers_checks
buffers-on a n = both-on (input_checks a n) (output_checks a n) (input-on a n) (output_on a n)

-- as in the code, one after the other
pub input-stops : (a : Arguments) (n : ℕ) (k : ReturnCode) → k ≡ input_checks a n Success → is_success k ≡ false →
    k ≡ buffers_checks a n Success
unfolding buffers_checks
input-stops a n k e h = e ∙ sym (on-stops (input_checks a n) (input-on a n) (ap is_success (sym e) ∙ h) (output_checks a n Success))

pub input-goes : (a : Arguments) (n : ℕ) (j k : ReturnCode) → j ≡ input_checks a n Success → is_success j ≡ true →
    k ≡ output_checks a n Success → k ≡ buffers_checks a n Success
unfolding buffers_checks
input-goes a n j k e h o = o ∙ sym (on-goes (input_checks a n) (input-on a n) (ap is_success (sym e) ∙ h) (output_checks a n Success))

-- what a success implies about them, and when they pass
pub placed : (a : Arguments) (n : ℕ) (rest : ReturnCode) → buffers_checks a n rest ≡ Success → (Placed a n) × (rest ≡ Success)
unfolding buffers_checks is_success
placed a n rest h =
    let i = buffer-ok P2 P3 refl refl _ _ _ n _ h in
    let o = buffer-ok P4 P5 refl refl _ _ _ n _ i.after in
    (record { input = i.within; output = o.within; short = ltb-false _ _ i.fit; wide = ltb-false _ _ o.fit }, o.after)

pub buffers-in : (a : Arguments) (n : ℕ) (rest : ReturnCode) → Placed a n → buffers_checks a n rest ≡ rest
unfolding buffers_checks
buffers-in a n rest p =
    buffer-in P2 P3 _ _ _ n _ (le-ltb 4096 a.insize p.short) p.input
    ∙ buffer-in P4 P5 _ _ _ n _ (le-ltb a.outsize 4096 p.wide) p.output

-- ---- the whole chain
-- all checks are those before H_RESOURCE, then for execute H_RESOURCE
pub comm-then : (a : Arguments) (memory response : List ℕ) (forbidden fault : Bool) →
    comm_code a memory response forbidden fault ≡ on_success (request_code a (length memory) forbidden)
    (cond (is_execute a.operation) (resource_check a response fault) Success)
unfolding comm_code request_code call_checks returns_if on_success is_success either
comm-then a memory response forbidden fault = go forbidden (is_execute a.operation) (is_close a.operation)
  where
    go : (f e k : Bool) →
        returns_if f Function (returns_if (not (either e k)) Parameter
        (cond e (buffers_checks a (length memory) (resource_check a response fault)) Success))
        ≡ on_success (returns_if f Function (returns_if (not (either e k)) Parameter
        (cond e (buffers_checks a (length memory) Success) Success))) (cond e (resource_check a response fault) Success)
    go true e k = refl
    go false true k = buffers-on a (length memory) (resource_check a response fault)
    go false false true = refl
    go false false false = refl

-- if an execute passes the checks before H_RESOURCE, the buffers are inside the memory
pub request-placed : (a : Arguments) (n : ℕ) (forbidden : Bool) → is_success (request_code a n forbidden) ≡ true → a.operation ≡ 1 →
    Placed a n
unfolding request_code call_checks is_execute is_success
request-placed a n forbidden h e =
    let k = (returns-ok _ _ _ refl (returns-ok _ _ _ refl (success-is _ h)).1).1 in
    let b : buffers_checks a n Success ≡ Success = rw (eq-eqb a.operation 1 e) at k in
    (placed a n Success b).0

pub has-placed : (a : Arguments) (n : ℕ) (forbidden : Bool) → has_request a n forbidden ≡ true → Placed a n
unfolding has_request is_execute
has-placed a n forbidden h = request-placed a n forbidden (both_r _ _ h) (eqb-true _ _ (both_l _ _ h))

pub has-reached : (a : Arguments) (n : ℕ) (forbidden : Bool) → has_request a n forbidden ≡ true → Reached a forbidden
unfolding has_request request_code call_checks is_execute is_success
has-reached a n forbidden h =
    record { allowed = (returns-ok _ _ _ refl (success-is _ (both_r _ _ h))).0; execute = eqb-true _ _ (both_l _ _ h) }

-- ---- when a call is accepted
pub accepted-if : (a : Arguments) (memory response : List ℕ) (forbidden fault : Bool) → CommAccepts a memory response forbidden fault →
    comm_code a memory response forbidden fault ≡ Success
unfolding comm_code call_checks returns_if is_execute is_close resource_check either
accepted-if a memory response forbidden fault p = rw p.allowed (go p.kind)
  where
    go : (a.operation ≡ 2) ⊎ Executes a memory response fault →
        returns_if (not (either (is_execute a.operation) (is_close a.operation))) Parameter
        (cond (is_execute a.operation) (buffers_checks a (length memory) (resource_check a response fault)) Success) ≡ Success
    go (inl e) = rw e
    go (inr x) =
        rw (eq-eqb a.operation 1 x.execute)
        (buffers-in a (length memory) _ x.placed ∙ rw (x.works, le-ltb a.outsize (length response) x.room))
