-- When a push is OK, and what it then does. The statement lists the conditions of CM7.7 to CM7.10 and uses no definition of the checks.
-- Assumes nothing.
use Prim.Native.Nat.{ℕ, ◌≤◌, ◌<◌}
use mathlib.Core.Path.{◌≡◌, refl}
use mathlib.Core.List.{List, [], ◌∷◌, ◌++◌}
use lib.ListN.{length}
use borrow.Author.Tests.{ltb-false, leb-false, eqb-true}
use Rattle.words.specs.Word.{part, word_at, u32_at}
use Rattle.codes.specs.Codes.{extended, x0_of, answer_of}
use Rattle.codes.specs.declared.Code.TheVariants.{Ok}
use Rattle.codes.proofs.Gates.{fails-ok, unless-ok}
use Rattle.queue.specs.Queue.{Lists, queued}
use Rattle.queue.proofs.Acts.{queued-ok}
use Rattle.request_rules.specs.Push.{request_of, push_code, pushed, push_of}
use Rattle.request_rules.proofs.Pushes.{push_ok}

-- A push is OK with a buffer of 80 bytes or more, algorithm id 0, hash id 1, and fewer than eight requests waiting. Then "the request joins
-- the end"; the buffer and the responses are unchanged.
pub buffer-push-acts : (b : List ℕ) (q : Lists) → 80 ≤ length b → u32_at 0 b ≡ 0 → u32_at 24 b ≡ 1 → length q.requests < 8 →
    push_of b q ≡ record {
      answer = record { code = Ok; x0 = 0; x1 = 0; x2 = 0 };
      page = b;
      queue = record {
        requests =
            q.requests ++ (record { algorithm = 0; granule = word_at 8 b; ticket = word_at 16 b; hashid = 1; hash = part 32 48 b } ∷ []);
        responses = q.responses;
      };
    }
unfolding push_of queued pushed request_of answer_of x0_of extended
buffer-push-acts b q l a h n = rw (push_ok b q l (request_of b) refl a h n, a, h)

-- and only then: from the code of the checks, and from the answer
pub push-told : (b : List ℕ) (q : Lists) → push_code b q ≡ Ok →
    (80 ≤ length b) × (u32_at 0 b ≡ 0) × (u32_at 24 b ≡ 1) × (length q.requests < 8)
unfolding push_code request_of
push-told b q h =
    let s = fails-ok _ _ _ refl h in
    let a = unless-ok _ _ _ refl s.1 in
    let i = unless-ok _ _ _ refl a.1 in
    let n = fails-ok _ _ _ refl i.1 in
    (ltb-false _ _ s.0, eqb-true _ _ a.0, eqb-true _ _ i.0, leb-false _ _ n.0)

pub buffer-push-only : (b : List ℕ) (q : Lists) → (push_of b q).answer.code ≡ Ok →
    (80 ≤ length b) × (u32_at 0 b ≡ 0) × (u32_at 24 b ≡ 1) × (length q.requests < 8)
unfolding push_of
buffer-push-only b q h = push-told b q (queued-ok (push_code b q) _ b q h)
