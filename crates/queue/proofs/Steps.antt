-- What a signing call returns, refused or not. Assumes nothing.
use Prim.Native.Nat.{ℕ}
use mathlib.Core.Path.{◌≡◌}
use mathlib.Core.Bool.{false}
use mathlib.Core.List.{List}
use Rattle.codes.specs.Codes.{is_ok, if_ok, answer_of}
use Rattle.codes.specs.declared.Code.{Code}
use Rattle.codes.specs.declared.Code.TheVariants.{Ok}
use Rattle.codes.proofs.Gates.{if-ok-by}
use Rattle.queue.specs.declared.Queue.{Queue}
use Rattle.queue.specs.declared.QueueResult.{QueueResult}
use Rattle.queue.specs.Queue.{Lists, SigningStep, SigningExit, lists_of, queue_holding, queued, queue_next, signing_exit, exit_of}
use Rattle.queue.proofs.Holding.{lists_back}

module _ (k : Code) (page : List ℕ) (lists : Lists) where
  -- checks that pass continue with the next step
  pub goes_on : (new : SigningStep) → k ≡ Ok → new ≡ queued k new page lists
  unfolding queued
  goes_on new e = rw e

module _ (k : Code) (page : List ℕ) (lists : Lists) (old : Queue) where
  -- a refusal
  pub refuses : (new : SigningStep) (c : Code) (r : QueueResult) → r ≡ record { answer = answer_of c 0 0; queue = old } → k ≡ c →
      is_ok c ≡ false → signing_exit r page ≡ exit_of old (queued k new page lists)
  unfolding queued exit_of queue_next answer_of
  refuses new c r p e h = rw (p, e, h) (rw h)

  -- an OK
  pub accepts : (x1 x2 : ℕ) (after : List ℕ) (next : Lists) → k ≡ Ok →
      ◌≡◌ {A = SigningExit} (record { answer = answer_of Ok x1 x2; page = after; queue = queue_holding next })
      (exit_of old (queued k (record { answer = answer_of Ok x1 x2; page = after; queue = next }) page lists))
  unfolding queued exit_of queue_next answer_of
  accepts x1 x2 after next e = rw e

-- the lists of the next queue
pub next-lists : (k : Code) (new : Lists) (old : Queue) → lists_of (queue_next k new old) ≡ if_ok k new (lists_of old)
unfolding queue_next
next-lists k new old =
    if-ok-by (λ (q : Queue). lists_of q ≡ if_ok k new (lists_of old)) k (queue_holding new) old (λ h. rw h (lists_back new)) (λ h. rw h)
