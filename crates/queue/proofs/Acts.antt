-- What the lookup of the oldest request returns, from the array and its count; and what follows from an answer of OK. Assumes nothing.
use Prim.Native.Nat.{ℕ, zero, suc, ◌≤◌}
use mathlib.Core.Path.{◌≡◌, refl}
use mathlib.Core.List.{List, ◌∷◌}
use native.Mathlib.Omega.{arith}
use lib.ListN.{take}
use Rattle.codes.specs.Codes.{answer_of}
use Rattle.codes.specs.declared.Code.{Code}
use Rattle.codes.specs.declared.Code.TheVariants.{Ok}
use Rattle.codes.proofs.Gates.{if-ok-by}
use Rattle.queue.specs.declared.Request.{Request}
use Rattle.queue.specs.declared.Queue.{Queue}
use Rattle.std.specs.Prelude.{Some, None}
use Rattle.queue.specs.Queue.{Lists, SigningStep, queued, waiting, lists_of, oldest_of}

first_of : (n : ℕ) (r : Request) (rest : List Request) → 1 ≤ n → oldest_of (take n (r ∷ rest)) ≡ Some r
unfolding oldest_of
first_of zero r rest h = absurd (omega arith)
first_of (suc n) r rest h = refl

-- an answer of OK comes from a code of OK
pub queued-ok : (k : Code) (new : SigningStep) (page : List ℕ) (q : Lists) → (queued k new page q).answer.code ≡ Ok → k ≡ Ok
unfolding queued answer_of
queued-ok k new page q =
    if-ok-by (λ (s : SigningStep). s.answer.code ≡ Ok → k ≡ Ok) k new (record { answer = answer_of k 0 0; page = page; queue = q })
    (λ e h. e) (λ e h. h)

module _ (q : Queue) where
  -- "The oldest request, all its fields, can be asked for": with a count of 1 or more it is the first of the array
  pub oldest-acts : (r : Request) (rest : List Request) → q.requests.items ≡ r ∷ rest → 1 ≤ q.requests.count →
      oldest_of (lists_of q).requests ≡ Some r
  unfolding lists_of waiting
  oldest-acts r rest e h = rw e (first_of q.requests.count r rest h)

  -- "none is a named answer": with a count of 0
  pub oldest-none : q.requests.count ≡ 0 → oldest_of (lists_of q).requests ≡ None
  unfolding lists_of waiting oldest_of
  oldest-none h = rw h
