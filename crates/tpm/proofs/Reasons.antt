-- A refusal happens only for its reason in TP3, and only if no earlier reason holds. Assumes nothing.
use Prim.Native.Nat.{ℕ, ◌+◌, ◌≤◌, ◌<◌}
use mathlib.Core.Path.{◌≡◌, refl, subst}
use mathlib.Core.Bool.{Bool, true, false, cond, not}
use mathlib.Core.List.{List}
use mathlib.Core.Logic.{◌⊎◌, inl, inr}
use lib.ListN.{length}
use lib.Dec.{leb, ltb}
use borrow.Author.Tests.{ltb-true, ltb-false, leb-true, leb-false, eqb-true, eqb-false}
use Rattle.words.specs.Tests.{either}
use Rattle.tpm.specs.declared.ReturnCode.{ReturnCode}
use Rattle.tpm.specs.declared.ReturnCode.TheVariants.{Success, Function, Parameter, P2, P3, P4, P5, Resource}
use Rattle.tpm.specs.declared.Arguments.{Arguments}
use Rattle.tpm.specs.ReturnCodes.{returns_if}
use Rattle.tpm.specs.Comm.{is_execute, is_close, buffer_checks, buffers_checks, resource_check, call_checks, comm_code}
use Rattle.tpm.specs.Claims.{Within, Placed, CommAccepts, Reached, BadSize, InputPlaced, Reason}
use Rattle.tpm.proofs.Checks.{either-no}

-- what holds for a code, by the checks that lead to it
returns-by : (P : ReturnCode → Type 0) (b : Bool) (k rest : ReturnCode) → (b ≡ true → P k) → (b ≡ false → P rest) → P (returns_if b k rest)
unfolding returns_if
returns-by P true k rest f g = f refl
returns-by P false k rest f g = g refl

one_of : (a : Bool) (m n : ℕ) → either a (ltb m n) ≡ true → (a ≡ true) ⊎ (m < n)
unfolding either
one_of true m n h = inl refl
one_of false m n h = inr (ltb-true m n h)

buffer-by : (P : ReturnCode → Type 0) (o w : ReturnCode) (low high start size n : ℕ) (rest : ReturnCode) →
    (n ≤ start → P o) → (BadSize (low < high) start size n → P w) → (high ≤ low → Within start size n → P rest) →
    P (buffer_checks o w (ltb low high) start size n rest)
unfolding buffer_checks
buffer-by P o w low high start size n rest f g h =
    returns-by P (leb n start) o _ (λ i. f (leb-true _ _ i))
    (λ i. returns-by P (either (ltb low high) (ltb n (start + size))) w rest
    (λ j. g (record { begins = leb-false _ _ i; bad = go (one_of _ _ _ j) }))
    (λ j. let e = either-no _ _ j in h (ltb-false _ _ e.0) (record { begins = leb-false _ _ i; ends = ltb-false _ _ e.1 })))
  where
    go : (ltb low high ≡ true) ⊎ (n < start + size) → (low < high) ⊎ (n < start + size)
    go (inl e) = inl (ltb-true low high e)
    go (inr l) = inr l

module _ (a : Arguments) (memory response : List ℕ) (forbidden fault : Bool) where
  abbrev Why : ReturnCode → Type 0
  Why k = Reason a memory response forbidden fault k

  -- for an execute that is allowed
  execute-why : Reached a forbidden → Why (buffers_checks a (length memory) (resource_check a response fault))
  unfolding buffers_checks resource_check
  execute-why r =
      buffer-by Why P2 P3 4096 a.insize a.inbuffer a.insize (length memory) _ (λ o. (r, o)) (λ b. (r, b)) (λ short input.
      let i : InputPlaced a (length memory) = record { input = input; short = short } in
      buffer-by Why P4 P5 a.outsize 4096 a.outbuffer a.outsize (length memory) _ (λ o. (r, i, o)) (λ b. (r, i, b)) (λ wide output.
      let p : Placed a (length memory) = record { input = input; output = output; short = short; wide = wide } in
      returns-by Why _ Resource Success (λ e. (r, p, one_of _ _ _ e))
      (λ e. let n = either-no _ _ e in record {
        allowed = r.allowed;
        kind = inr (record { execute = r.execute; placed = p; works = n.0; room = ltb-false _ _ n.1 });
      })))

  pub comm-why : Reason a memory response forbidden fault (comm_code a memory response forbidden fault)
  unfolding comm_code call_checks returns_if either is_execute is_close
  comm-why = returns-by Why forbidden Function _ (λ f. f) (λ f. go f (is_execute a.operation) (is_close a.operation) refl refl)
    where
      go : forbidden ≡ false → (e k : Bool) → is_execute a.operation ≡ e → is_close a.operation ≡ k →
          Why (returns_if (not (either e k)) Parameter (cond e (buffers_checks a (length memory) (resource_check a response fault)) Success))
      go f true k x y = execute-why (record { allowed = f; execute = eqb-true _ _ x })
      go f false true x y = record { allowed = f; kind = inl (eqb-true _ _ y) }
      go f false false x y = (f, eqb-false _ _ x, eqb-false _ _ y)

  pub accepts : comm_code a memory response forbidden fault ≡ Success → CommAccepts a memory response forbidden fault
  accepts h = subst Why h comm-why
