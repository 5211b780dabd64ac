-- what is handed back with a queue, refused and accepted
use Prim.Native.Nat.{ℕ}
use mathlib.Core.Path.{◌≡◌}
use mathlib.Core.Bool.{true, false}
use mathlib.Core.List.{List}
use borrow.Author.Rules.{rules}
use Rattle.codes.specs.Codes.{is_ok}
use Rattle.codes.specs.declared.Code.TheVariants.{Ok}
use Rattle.codes.proofs.Gates.{ok-is, not_ok}
use Rattle.codes.specs.declared.Answer.{Answer}
use Rattle.queue.specs.declared.Queue.{Queue}
use Rattle.queue.specs.Queue.{Lists, SigningStep, SigningExit, queue_holding, lists_of, queue_next, exit_of}
use Rattle.signing.proofs.public_key.Goals as goal

module _ (a : Answer) (page : List ℕ) (q : Lists) (old : Queue) (s : SigningStep)
    (e : ◌≡◌ {A = SigningStep} (record { answer = a; page = page; queue = q }) s) where
  stays : is_ok a.code ≡ false → ◌≡◌ {A = SigningExit} (record { answer = a; page = page; queue = old }) (exit_of old s)
  unfolding exit_of queue_next
  stays h = rw (← e, h)

  holds : is_ok a.code ≡ true → ◌≡◌ {A = SigningExit} (record { answer = a; page = page; queue = queue_holding q }) (exit_of old s)
  unfolding exit_of queue_next
  holds h = rw (← e, h)

pub returns-then-ne : goal.returns-then-ne
returns-then-ne c =
    let a = c.args in
    let n : c.put_key-answer.result.code ≡ Ok → ⊥ = search rules in
    stays _ _ (lists_of a.queue) a.queue _ (c.put_key-answer.ensures (lists_of a.queue)) (not_ok _ n)

pub returns : goal.returns
returns c =
    let a = c.args in
    let n : c.put_key-answer.result.code ≡ Ok = search rules in
    rw c.clear_free.ensures (holds _ _ (lists_of a.queue) a.queue _ (c.put_key-answer.ensures (lists_of a.queue)) (ok-is _ n))
