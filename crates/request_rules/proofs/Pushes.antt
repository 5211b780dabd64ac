-- Push, return by return. Assumes nothing.
use Prim.Native.Nat.{ℕ, ◌≤◌, ◌<◌}
use mathlib.Core.Path.{◌≡◌}
use mathlib.Core.List.{List}
use lib.ListN.{length}
use borrow.Author.Tests.{eq-eqb, ne_eqb, le-ltb, lt-ltb, le-leb, lt-leb}
use Rattle.codes.specs.Codes.{is_false, fails}
use Rattle.codes.specs.declared.Code.TheVariants.{Ok, Inval, Again}
use Rattle.queue.specs.declared.Request.{Request}
use Rattle.queue.specs.Queue.{Lists}
use Rattle.request_rules.specs.Push.{request_of, push_code}

module _ (b : List ℕ) (q : Lists) where
  pub push-small : length b < 80 → push_code b q ≡ Inval
  unfolding push_code fails
  push-small h = rw (lt-ltb (length b) 80 h)

  module _ (l : 80 ≤ length b) (r : Request) (e : r ≡ request_of b) where
    pub push-algorithm : (r.algorithm ≡ 0 → ⊥) → push_code b q ≡ Inval
    unfolding push_code fails is_false
    push-algorithm n = rw (le-ltb (length b) 80 l, ← e, ne_eqb r.algorithm 0 n)

    module _ (a : r.algorithm ≡ 0) where
      pub push-hash : (r.hashid ≡ 1 → ⊥) → push_code b q ≡ Inval
      unfolding push_code fails is_false
      push-hash n = rw (le-ltb (length b) 80 l, ← e, eq-eqb r.algorithm 0 a, ne_eqb r.hashid 1 n)

      module _ (h : r.hashid ≡ 1) where
        pub push-full : 8 ≤ length q.requests → push_code b q ≡ Again
        unfolding push_code fails is_false
        push-full n = rw (le-ltb (length b) 80 l, ← e, eq-eqb r.algorithm 0 a, eq-eqb r.hashid 1 h, le-leb 8 (length q.requests) n)

        pub push_ok : length q.requests < 8 → push_code b q ≡ Ok
        unfolding push_code fails is_false
        push_ok n = rw (le-ltb (length b) 80 l, ← e, eq-eqb r.algorithm 0 a, eq-eqb r.hashid 1 h, lt-leb 8 (length q.requests) n)
