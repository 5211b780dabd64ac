-- E13 (the two messages "read and written"): reading what was written gives the parts back. Assumes nothing.
use Prim.Native.Nat.{ℕ, ◌+◌, ◌≤◌}
use mathlib.Core.Path.{◌≡◌, refl, sym, ap, ◌∙◌}
use mathlib.Core.Bool.{Bool, true, false, cond}
use mathlib.Core.List.{List, [], ◌++◌, append-nil}
use native.Mathlib.Omega.{arith}
use lib.ListN.{length, take}
use lib.Seq.{take_at}
use lib.Dec.{ltb, eqb}
use borrow.Author.Tests.{eq-eqb, le-ltb, ltb-false}
use Rattle.std.specs.Prelude.{Ok, Err}
use Rattle.words.specs.Word.{splice}
use Rattle.big_words.specs.Big.{big_at}
use Rattle.state_messages.specs.Messages.{StateResponse, Fits32Request, Fits32Response, head_bytes, request_message}
use Rattle.state_messages.specs.Messages.{response_message, request_parts, read_request, response_parts, read_response, Message}
use Rattle.state_messages.specs.Messages.{written_after, write_message, write_request, write_response}
use Rattle.state_messages.specs.declared.StateRequest.{StateRequest}
use Rattle.state_messages.specs.declared.StateRefusal.TheVariants as refusal
use Rattle.state_messages.proofs.Heads.{head_first, head-second, head-third, head-fourth, head-rest}
use Rattle.state_messages.proofs.Writes.{request_length, response_length}

-- ---- the written bytes are at the start of the buffer
abbrev roomy : Bool → List ℕ → List ℕ → Message
roomy f vs b = written_after (cond f (Err refusal.NoRoom) (Ok tt)) b (record { answer = Ok (length vs); buffer = splice 0 vs b })

front_by : (f : Bool) (vs b : List ℕ) {n : ℕ} → (roomy f vs b).answer ≡ Ok n → take n (roomy f vs b).buffer ≡ vs
unfolding splice
front_by true vs b h = cc
front_by false vs b {n} h = take_at vs _ n (cc)

pub written-front : (vs b : List ℕ) {n : ℕ} → (write_message vs b).answer ≡ Ok n → take n (write_message vs b).buffer ≡ vs
unfolding write_message
written-front vs b h = front_by (ltb (length b) (length vs)) vs b h

-- ---- the request
pub request-read : (q : StateRequest) → Fits32Request q → read_request q.code (request_message q) ≡ Ok q
unfolding read_request request_parts request_message
request-read q s =
    let m = head_bytes q.code q.flags q.kind q.offset in
    let e : m ≡ m ++ [] = sym (append-nil m) in
    simp (
      request_length q,
      ap (big_at 4 0) e ∙ head_first q.code q.flags q.kind q.offset [] s.code,
      ap (big_at 4 4) e ∙ head-second q.code q.flags q.kind q.offset [] s.flags,
      ap (big_at 4 8) e ∙ head-third q.code q.flags q.kind q.offset [] s.kind,
      ap (big_at 4 12) e ∙ head-fourth q.code q.flags q.kind q.offset [] s.offset,
      eq-eqb q.code q.code refl,
    )

-- a request that was written, read with its own code
pub request-read-back : (q : StateRequest) (b : List ℕ) {n : ℕ} → Fits32Request q → (write_request q b).answer ≡ Ok n →
    read_request q.code (take n (write_request q b).buffer) ≡ Ok q
unfolding write_request
request-read-back q b s h = rw (written-front (request_message q) b h) (request-read q s)

-- ---- the response
pub response-read : (largest : ℕ) (p : StateResponse) → Fits32Response p → length p.bytes ≤ largest →
    read_response largest (response_message p) ≡ cond (eqb p.result 0) (Ok p) (Err refusal.Failed)
unfolding read_response response_parts response_message
response-read largest p s l =
    simp (
      response_length p,
      head_first p.result p.flags p.total (length p.bytes) p.bytes s.result,
      head-second p.result p.flags p.total (length p.bytes) p.bytes s.flags,
      head-third p.result p.flags p.total (length p.bytes) p.bytes s.total,
      head-fourth p.result p.flags p.total (length p.bytes) p.bytes s.bytes,
      head-rest p.result p.flags p.total (length p.bytes) p.bytes,
      le-ltb (16 + length p.bytes) (16 + length p.bytes) (omega arith),
      le-ltb largest (length p.bytes) l,
    )

below_by : (f : Bool) (b : List ℕ) (w : Message) {n : ℕ} →
    (written_after (cond f (Err refusal.AboveLargest) (Ok tt)) b w).answer ≡ Ok n → f ≡ false
below_by true b w h = cc
below_by false b w h = refl

-- a response that was written, read with the same largest size; one whose tpm_result is not zero reads as failed
pub response-read-back : (largest : ℕ) (p : StateResponse) (b : List ℕ) {n : ℕ} → Fits32Response p →
    (write_response largest p b).answer ≡ Ok n →
    read_response largest (take n (write_response largest p b).buffer) ≡ cond (eqb p.result 0) (Ok p) (Err refusal.Failed)
unfolding write_response
response-read-back largest p b s h =
    let f : ltb largest (length p.bytes) ≡ false = below_by (ltb largest (length p.bytes)) b (write_message (response_message p) b) h in
    rw (f, written-front (response_message p) b (rw f at h)) (response-read largest p s (ltb-false _ _ f))
