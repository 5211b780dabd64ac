-- When the signer's own step gives each of its codes. "signature length not 1 to 104 INVAL; no request AGAIN; eight responses waiting
-- AGAIN;" Assumes nothing.
use Prim.Native.Nat.{ℕ, ◌≤◌, ◌<◌}
use mathlib.Core.Path.{◌≡◌, refl}
use mathlib.Core.List.{List}
use lib.ListN.{length}
use Rattle.codes.specs.Codes.{answer_of}
use Rattle.codes.specs.Reasons.{Gives, Passes}
use Rattle.codes.specs.declared.Code.TheVariants.{Inval, Again}
use Rattle.codes.proofs.Reasons.{tells-lt, tells-le, tells-eq, gives}
use Rattle.queue.specs.Queue.{Lists}
use Rattle.response_rules.specs.Sign.{sign_code, sign_of}

pub sign-codes : (q : Lists) (s : List ℕ) →
    Gives (length s ≡ 0) Inval
    (Gives (104 < length s) Inval
    (Gives (length q.requests ≡ 0) Again
    (Gives (8 ≤ length q.responses) Again
    Passes)))
    (sign_of q s).answer.code
unfolding sign_of sign_code answer_of
sign-codes q s =
    gives _ _ Inval _ _ (tells-eq (length s) 0) (λ a.
    gives _ _ Inval _ _ (tells-lt 104 (length s)) (λ b.
    gives _ _ Again _ _ (tells-eq (length q.requests) 0) (λ c.
    gives _ _ Again _ _ (tells-le 8 (length q.responses)) (λ d. refl))))
