-- Messages written at the start of a buffer. Assumes nothing.
use Prim.Native.Nat.{ℕ, ◌+◌, ◌-◌, ◌≤◌, ◌<◌}
use mathlib.Core.Path.{◌≡◌, ap, ◌∙◌}
use mathlib.Core.List.{List, ◌++◌}
use native.Mathlib.Omega.{arith}
use lib.ListN.{length, take, drop, length-append, length-drop}
use lib.Seq.{take_all}
use borrow.Author.Tests.{le-ltb, lt-ltb}
use Rattle.std.specs.Prelude.{Ok}
use Rattle.words.specs.Word.{splice, laid}
use Rattle.words.proofs.Store.{splice-splice, lent_back, bytes-in}
use Rattle.state_messages.specs.Messages.{StateResponse, head_bytes, request_message, response_message, not_written, write_message}
use Rattle.state_messages.specs.Messages.{write_response}
use Rattle.state_messages.specs.declared.StateRequest.{StateRequest}
use Rattle.state_messages.specs.declared.StateRefusal.TheVariants as refusal
use Rattle.state_messages.proofs.Heads.{head-length}

pub request_length : (q : StateRequest) → length (request_message q) ≡ 16
unfolding request_message
request_length q = head-length q.code q.flags q.kind q.offset

pub response_length : (p : StateResponse) → length (response_message p) ≡ 16 + length p.bytes
unfolding response_message
response_length p = simp (length-append, head-length)

-- ---- the buffer after a copy into its slice from an offset on; that slice is everything after the offset
pub lent-splice : (at : ℕ) (vs s : List ℕ) → at + length vs ≤ length s →
    take at s ++ (laid 0 vs (take (length s - at) (drop at s)) ++ drop (length s - at) (drop at s)) ≡ splice at vs s
lent-splice at vs s h = lent_back at vs s h ∙ bytes-in at vs s h

pub lent-all : (n : ℕ) (s : List ℕ) → take (length s - n) (drop n s) ≡ drop n s
lent-all n s = take_all (length s - n) (drop n s) (rw length-drop (omega arith))

-- ---- a message that fits is written; otherwise no byte changes
pub write-in : (vs b : List ℕ) {n : ℕ} → length vs ≡ n → n ≤ length b →
    write_message vs b ≡ record { answer = Ok n; buffer = splice 0 vs b }
unfolding write_message
write-in vs b {n} e h = rw (e, le-ltb (length b) n h)

pub write-out : (vs b : List ℕ) {n : ℕ} → length vs ≡ n → length b < n → write_message vs b ≡ not_written refusal.NoRoom b
unfolding write_message
write-out vs b {n} e h = rw (e, lt-ltb (length b) n h)

pub response-above : (largest : ℕ) (p : StateResponse) (b : List ℕ) → largest < length p.bytes →
    write_response largest p b ≡ not_written refusal.AboveLargest b
unfolding write_response
response-above largest p b h = rw (lt-ltb largest (length p.bytes) h)

pub response-in : (largest : ℕ) (p : StateResponse) (b : List ℕ) → length p.bytes ≤ largest → 16 + length p.bytes ≤ length b →
    write_response largest p b ≡ record { answer = Ok (16 + length p.bytes); buffer = splice 0 (response_message p) b }
unfolding write_response
response-in largest p b h l = rw (le-ltb largest (length p.bytes) h) (write-in (response_message p) b (response_length p) l)

pub response-out : (largest : ℕ) (p : StateResponse) (b : List ℕ) → length p.bytes ≤ largest → length b < 16 + length p.bytes →
    write_response largest p b ≡ not_written refusal.NoRoom b
unfolding write_response
response-out largest p b h l = rw (le-ltb largest (length p.bytes) h) (write-out (response_message p) b (response_length p) l)

-- the four numbers, then the data in the slice after them
pub response-put : (p : StateResponse) (b s : List ℕ) → s ≡ splice 0 (head_bytes p.result p.flags p.total (length p.bytes)) b →
    16 + length p.bytes ≤ length s →
    take 16 s ++ (laid 0 p.bytes (take (length s - 16) (drop 16 s)) ++ drop (length s - 16) (drop 16 s)) ≡ splice 0 (response_message p) b
unfolding response_message
response-put p b s e h =
    let hs = head_bytes p.result p.flags p.total (length p.bytes) in
    lent-splice 16 p.bytes s h
    ∙ rw e
    (ap (λ (k : ℕ). splice k p.bytes (splice 0 hs b)) (let z : 16 ≡ 0 + length hs = omega
    (arith, head-length p.result p.flags p.total (length p.bytes)) in z)
    ∙ splice-splice 0 hs b (omega arith) p.bytes)
