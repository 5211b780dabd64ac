-- The queue that `runtime::call` returns holds exactly what waits after the step, so a sequence of calls, each on the queue of the call
-- before it, is a sequence of steps. Assumes nothing.
use Prim.Native.Nat.{ℕ}
use mathlib.Core.Path.{◌≡◌, refl, sym, ap, ◌∙◌}
use mathlib.Core.Bool.{false}
use mathlib.Core.List.{List}
use Rattle.codes.specs.Codes.{is_ok}
use Rattle.codes.specs.declared.Code.{Code}
use Rattle.codes.proofs.Gates.{if-ok-by}
use Rattle.banks.specs.Banks.{Granules}
use Rattle.token_rules.specs.declared.Session.{Session}
use Rattle.queue.specs.declared.Queue.{Queue}
use Rattle.queue.specs.Queue.{Lists, SigningStep, lists_of, queue_next}
use Rattle.queue.proofs.Steps.{next-lists}
use Rattle.response_rules.specs.Sign.{SignStep, sign_of, sign_exit}
use Rattle.response_rules.proofs.Signs.{sign-refused}
use Rattle.signing.specs.Signing.{signing_of}
use Rattle.signing.proofs.Signings.{signing-refused}
use Rattle.runtime.specs.declared.Kind.{Kind}
use Rattle.runtime.specs.declared.Kind.TheVariants.{ForwardError, Delegate, Undelegate, RealmKey, PlatformToken, Features}
use Rattle.runtime.specs.declared.Kind.TheVariants.{TokenSigning, KeyUpdate, Unlisted}
use Rattle.runtime.specs.Step.{World, world_of, Call, kind_of, call_by, call_of, reply_code, after_move, after_key, after_token, after_signing}
use Rattle.runtime.specs.Step.{after_update, queue_by, exit_by}

stands-for : (k : Code) (new : Lists) (old : Queue) → (is_ok k ≡ false → new ≡ lists_of old) → lists_of (queue_next k new old) ≡ new
stands-for k new old h = next-lists k new old ∙ if-ok-by (λ (l : Lists). l ≡ new) k new (lists_of old) (λ e. refl) (λ e. sym (h e))

-- the signer's step
pub sign-lists : (q : Queue) (s : List ℕ) → lists_of (sign_exit q (sign_of (lists_of q) s)).queue ≡ (sign_of (lists_of q) s).queue
unfolding sign_exit
sign-lists q s = stands-for _ (sign_of (lists_of q) s).queue q (λ h. ap (λ (t : SignStep). t.queue) (sign-refused (lists_of q) s h))

-- any call
module _ (g : Granules) (page table words : List ℕ) (session : Session) (q : Queue) (c : Call) where
  abbrev before : World
  before = world_of page table words session (lists_of q)

  by_kind : (k : Kind) → lists_of (exit_by k q (call_by k g before c)).queue ≡ (call_by k g before c).next.queue
  unfolding call_by exit_by queue_by reply_code after_move after_key after_token after_signing after_update
  by_kind ForwardError = refl
  by_kind Delegate = refl
  by_kind Undelegate = refl
  by_kind RealmKey = refl
  by_kind PlatformToken = refl
  by_kind Features = refl
  by_kind TokenSigning =
      stands-for _ (signing_of c.state page (lists_of q) c.public_key c.x1 c.x2 c.x3 c.x4).queue q
      (λ h. ap (λ (t : SigningStep). t.queue) (signing-refused c.state page (lists_of q) c.public_key c.x1 c.x2 c.x3
      c.x4 h))
  by_kind KeyUpdate = refl
  by_kind Unlisted = refl

  pub call-lists : lists_of (exit_by (kind_of c.id) q (call_of g before c)).queue ≡ (call_of g before c).next.queue
  unfolding call_of
  call-lists = by_kind (kind_of c.id)
