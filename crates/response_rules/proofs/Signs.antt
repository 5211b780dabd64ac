-- The signer's own step, return by return, and what a refusal leaves. Assumes nothing.
use Prim.Native.Nat.{ℕ, ◌<◌, ◌≤◌}
use mathlib.Core.Path.{◌≡◌}
use mathlib.Core.Bool.{false}
use mathlib.Core.List.{List}
use lib.ListN.{length}
use borrow.Author.Tests.{eq-eqb, ne_eqb, le-ltb, lt-ltb, le-leb, lt-leb}
use Rattle.codes.specs.Codes.{fails, is_ok, answer_of}
use Rattle.codes.specs.declared.Code.{Code}
use Rattle.codes.specs.declared.Code.TheVariants.{Ok, Inval, Again}
use Rattle.queue.specs.declared.Queue.{Queue}
use Rattle.queue.specs.declared.QueueResult.{QueueResult}
use Rattle.queue.specs.Queue.{Lists, queue_holding, queue_next}
use Rattle.response_rules.specs.Sign.{sign_code, signed, sign_of, sign_exit}

module _ (q : Lists) (s : List ℕ) (old : Queue) where
  pub sign-refuses : (c : Code) (r : QueueResult) → r ≡ record { answer = answer_of c 0 0; queue = old } → sign_code q s ≡ c →
      is_ok c ≡ false → r ≡ sign_exit old (sign_of q s)
  unfolding sign_of sign_exit queue_next answer_of
  sign-refuses c r p e h = rw (p, e, h)

  pub sign-accepts : sign_code q s ≡ Ok → ◌≡◌ {A = QueueResult} (record { answer = answer_of Ok 0 0; queue = queue_holding (signed q s) })
      (sign_exit old (sign_of q s))
  unfolding sign_of sign_exit queue_next answer_of
  sign-accepts e = rw e

module _ (q : Lists) (s : List ℕ) where
  pub sign-empty : length s ≡ 0 → sign_code q s ≡ Inval
  unfolding sign_code fails
  sign-empty h = rw (eq-eqb (length s) 0 h)

  module _ (n : length s ≡ 0 → ⊥) where
    pub sign-long : 104 < length s → sign_code q s ≡ Inval
    unfolding sign_code fails
    sign-long h = rw (ne_eqb (length s) 0 n, lt-ltb 104 (length s) h)

    module _ (l : length s ≤ 104) where
      pub sign-none : length q.requests ≡ 0 → sign_code q s ≡ Again
      unfolding sign_code fails
      sign-none h = rw (ne_eqb (length s) 0 n, le-ltb 104 (length s) l, eq-eqb (length q.requests) 0 h)

      module _ (r : length q.requests ≡ 0 → ⊥) where
        pub sign-full : 8 ≤ length q.responses → sign_code q s ≡ Again
        unfolding sign_code fails
        sign-full h = rw (ne_eqb (length s) 0 n, le-ltb 104 (length s) l, ne_eqb (length q.requests) 0 r, le-leb 8 (length q.responses) h)

        pub sign-ok : length q.responses < 8 → sign_code q s ≡ Ok
        unfolding sign_code fails
        sign-ok h = rw (ne_eqb (length s) 0 n, le-ltb 104 (length s) l, ne_eqb (length q.requests) 0 r, lt-leb 8 (length q.responses) h)

-- a refused step leaves both sides unchanged, with zeros in x1 and x2
pub sign-refused : (q : Lists) (s : List ℕ) → is_ok (sign_of q s).answer.code ≡ false →
    sign_of q s ≡ record { answer = answer_of (sign_of q s).answer.code 0 0; queue = q }
unfolding sign_of answer_of
sign-refused q s h = rw h
