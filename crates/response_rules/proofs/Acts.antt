-- When a pull and the signer's own step are OK, and what they then do. Each statement lists the conditions of CM7 or SQ2 and uses no
-- definition of the checks. Assumes nothing.
use Prim.Native.Nat.{ℕ, ◌+◌, ◌≤◌, ◌<◌}
use mathlib.Core.Path.{◌≡◌, refl, ◌∙◌}
use mathlib.Core.List.{List, [], ◌∷◌, ◌++◌}
use native.Mathlib.Omega.{arith}
use native.Mathlib.Nat.{zero-add}
use lib.ListN.{length, drop, length-append}
use borrow.Author.Tests.{ltb-false, leb-false, eqb-false}
use Rattle.words.specs.Word.{le_bytes, splice}
use Rattle.words.proofs.Read.{le_bytes-length}
use Rattle.codes.specs.Codes.{extended, x0_of, answer_of}
use Rattle.codes.specs.declared.Code.TheVariants.{Ok}
use Rattle.codes.proofs.Gates.{fails-ok}
use Rattle.queue.specs.declared.Request.{Request}
use Rattle.queue.specs.Queue.{Signed, Lists, queued, oldest_request, oldest_response}
use Rattle.queue.proofs.Acts.{queued-ok}
use Rattle.response_rules.specs.Pull.{response_bytes, pull_code, pulled, pull_of}
use Rattle.response_rules.specs.Sign.{sign_code, signed_by, signed, sign_of}
use Rattle.response_rules.proofs.Pulls.{pull-ok}
use Rattle.response_rules.proofs.Signs.{sign-ok}

pub signed-length : (s : Signed) → length (response_bytes s) ≡ 18 + length s.signature
unfolding response_bytes
signed-length s =
    let g : length (le_bytes 8 s.granule) ≡ 8 = le_bytes-length 8 s.granule in
    let t : length (le_bytes 8 s.ticket) ≡ 8 = le_bytes-length 8 s.ticket in
    let n : length (le_bytes 2 (length s.signature)) ≡ 2 = le_bytes-length 2 (length s.signature) in
    let gt : length (le_bytes 8 s.granule ++ le_bytes 8 s.ticket) ≡ 16 = length-append (le_bytes 8 s.granule)
    (le_bytes 8 s.ticket) ∙ omega arith in
    let gtn : length (le_bytes 8 s.granule ++ le_bytes 8 s.ticket ++ le_bytes 2 (length s.signature)) ≡ 18 = length-append
    (le_bytes 8 s.granule ++ le_bytes 8 s.ticket) (le_bytes 2 (length s.signature)) ∙ omega arith in
    length-append (le_bytes 8 s.granule ++ le_bytes 8 s.ticket ++ le_bytes 2 (length s.signature)) s.signature ∙ omega arith

-- bytes written over the start of a buffer
front-over : (b vs : List ℕ) (n : ℕ) → length vs ≡ n → splice 0 vs b ≡ vs ++ drop n b
unfolding splice
front-over b vs n e = rw (e, zero-add)

-- A pull is OK if a response waits and 18 + its signature's length is at most the buffer's size. Then the buffer starts with "rec_granule,
-- req_ticket, 2-byte length, signature" and is otherwise unchanged; the response is dropped, and the requests are unchanged.
pub buffer-pull-acts : (b : List ℕ) (asked : List Request) (r : Signed) (rest : List Signed) → 18 + length r.signature ≤ length b →
    pull_of b (record { requests = asked; responses = r ∷ rest }) ≡ record {
      answer = record { code = Ok; x0 = 0; x1 = 0; x2 = 0 };
      page =
          le_bytes 8 r.granule ++ le_bytes 8 r.ticket ++ le_bytes 2 (length r.signature) ++ r.signature ++
          drop (18 + length r.signature) b;
      queue = record { requests = asked; responses = rest };
    }
unfolding pull_of queued pulled response_bytes oldest_response answer_of x0_of extended
buffer-pull-acts b asked r rest l =
    rw (
      pull-ok (length b) (record { requests = asked; responses = r ∷ rest }) (λ e. omega arith) r refl l,
      front-over b (response_bytes r) (18 + length r.signature) (signed-length r),
    )

-- and only then: from the code of the checks, and from the answer
pub pull-told : (size : ℕ) (q : Lists) → pull_code size q ≡ Ok →
    (1 ≤ length q.responses) × (18 + length (oldest_response q.responses).signature ≤ size)
unfolding pull_code
pull-told size q h =
    let n = fails-ok _ _ _ refl h in
    let l = fails-ok _ _ _ refl n.1 in
    (omega (arith, eqb-false (length q.responses) 0 n.0), ltb-false _ _ l.0)

pub buffer-pull-only : (b : List ℕ) (q : Lists) → (pull_of b q).answer.code ≡ Ok →
    (1 ≤ length q.responses) × (18 + length (oldest_response q.responses).signature ≤ length b)
unfolding pull_of
buffer-pull-only b q h = pull-told (length b) q (queued-ok (pull_code (length b) q) _ b q h)

-- The signer's step is OK if the signature has 1 to 104 bytes, a request waits, and fewer than eight responses wait. Then "the oldest
-- request becomes the newest response", with its rec_granule, its req_ticket and the signature.
pub sign-acts : (s : List ℕ) (r : Request) (rest : List Request) (done : List Signed) → 1 ≤ length s → length s ≤ 104 → length done < 8 →
    sign_of (record { requests = r ∷ rest; responses = done }) s ≡ record {
      answer = record { code = Ok; x0 = 0; x1 = 0; x2 = 0 };
      queue = record { requests = rest; responses = done ++ (record { granule = r.granule; ticket = r.ticket; signature = s } ∷ []) };
    }
unfolding sign_of signed signed_by oldest_request answer_of x0_of extended
sign-acts s r rest done lo hi m =
    rw (sign-ok (record { requests = r ∷ rest; responses = done }) s (λ e. omega arith) hi (λ e. omega arith) m) refl

-- and only then
pub sign-only : (q : Lists) (s : List ℕ) → (sign_of q s).answer.code ≡ Ok →
    (1 ≤ length s) × (length s ≤ 104) × (1 ≤ length q.requests) × (length q.responses < 8)
unfolding sign_of sign_code answer_of
sign-only q s h =
    let e = fails-ok _ _ _ refl h in
    let l = fails-ok _ _ _ refl e.1 in
    let n = fails-ok _ _ _ refl l.1 in
    let f = fails-ok _ _ _ refl n.1 in (
      omega (arith, eqb-false (length s) 0 e.0),
      ltb-false _ _ l.0,
      omega (arith, eqb-false (length q.requests) 0 n.0),
      leb-false _ _ f.0,
    )
