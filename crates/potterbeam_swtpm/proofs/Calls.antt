-- Calls of the exported collector are steps of the collector, so the theorems of E13 hold for them; refused calls change nothing that they
-- are lent. Assumes nothing.
use Prim.Native.Nat.{ℕ}
use mathlib.Core.Path.{◌≡◌, refl, ap, ◌∙◌}
use mathlib.Core.Bool.{Bool, true, false, cond}
use mathlib.Core.List.{List, [], ◌∷◌}
use lib.ListN.{length}
use lib.Dec.{ltb}
use Rattle.state_messages.specs.Messages.{StateResponse, request_message, response_message, Message, written_after, write_message, write_request}
use Rattle.state_messages.specs.Messages.{write_response}
use Rattle.std.specs.Prelude.{Ok, Err}
use Rattle.state_messages.specs.declared.StateRequest.{StateRequest}
use Rattle.state_messages.specs.declared.StateRefusal.TheVariants as refusal
use Rattle.state_blobs.specs.Collect.{new_collector, is_complete, unchanged, piece_appended, collect}
use Rattle.state_blobs.specs.Blobs.{Offer, started, after_offer, after_offers, accepted_of, complete_over, Cuts, HoldsFirst, HoldsJoined}
use Rattle.state_blobs.specs.Blobs.{HoldsWhole}
use Rattle.state_blobs.proofs.Collects.{collect-cases}
use Rattle.state_blobs.proofs.E13.{held-are-first, complete-holds-blob}
use Rattle.state_blobs.proofs.Joined.{holds-accepted, complete-exactly}
use Rattle.potterbeam_swtpm.specs.Exports.{written_left, write_left, collector_of, verdict_left, collect_left, LentCollector, new_image}
use Rattle.potterbeam_swtpm.specs.Exports.{collector_after, collector_after_all, held_by}

-- all zeros are a new collector
pub zeros-new : (b : List ℕ) → held_by (record { image = new_image; buffer = b }) ≡ started b
unfolding held_by new_image collector_of started new_collector
zeros-new b = refl

-- any image, including a forged one
pub call_step : (o : Offer) (l : LentCollector) → held_by (collector_after o l) ≡ after_offer o (held_by l)
unfolding held_by collector_after after_offer collector_of verdict_left unchanged piece_appended
call_step o l = collect-cases (collector_of l.image) l.buffer o.largest o.message (λ why q. rw q) (λ p e a q. rw q)

pub call-steps : (os : List Offer) (l : LentCollector) → held_by (collector_after_all os l) ≡ after_offers os (held_by l)
unfolding collector_after_all after_offers
call-steps [] l = refl
call-steps (o ∷ os) l = call-steps os (collector_after o l) ∙ ap (after_offers os) (call_step o l)

-- Request E13: "On refusal collector and lent buffers stay unchanged.": every word of the image, including a forged one
pub exported-refused-changes-nothing : (o : Offer) (l : LentCollector) →
    ((collect_left (collect o.largest o.message (collector_of l.image) l.buffer) l.image).answer ≡ 0 → ⊥) →
    collector_after o l ≡ l
unfolding collector_after verdict_left unchanged piece_appended
exported-refused-changes-nothing o l h =
    collect-cases (collector_of l.image) l.buffer o.largest o.message (λ why q. rw q) (λ p e a q. absurd (h (rw q)))

-- the same for writing: the buffer, and the word lent for the length
abbrev tried : Bool → Bool → ℕ → List ℕ → List ℕ → Message
tried f g n s b =
    written_after (cond f (Err refusal.AboveLargest) (Ok tt)) b
    (written_after (cond g (Err refusal.NoRoom) (Ok tt)) b (record { answer = Ok n; buffer = s }))

left_by : (f g : Bool) (n : ℕ) (s b : List ℕ) (len : ℕ) → ((write_left (tried f g n s b) len).answer ≡ 0 → ⊥) →
    ((write_left (tried f g n s b) len).buffer ≡ b) × ((write_left (tried f g n s b) len).len ≡ len)
unfolding written_left
left_by true g n s b len h = (refl, refl)
left_by false true n s b len h = (refl, refl)
left_by false false n s b len h = absurd (h refl)

pub refused-request-writes-nothing : (q : StateRequest) (b : List ℕ) (len : ℕ) → ((write_left (write_request q b) len).answer ≡ 0 → ⊥) →
    ((write_left (write_request q b) len).buffer ≡ b) × ((write_left (write_request q b) len).len ≡ len)
unfolding write_request write_message
refused-request-writes-nothing q b len h = left_by false (ltb (length b) (length (request_message q))) _ _ b len h

pub refused-response-writes-nothing : (largest : ℕ) (p : StateResponse) (b : List ℕ) (len : ℕ) →
    ((write_left (write_response largest p b) len).answer ≡ 0 → ⊥) →
    ((write_left (write_response largest p b) len).buffer ≡ b) × ((write_left (write_response largest p b) len).len ≡ len)
unfolding write_response write_message
refused-response-writes-nothing largest p b len h =
    left_by (ltb largest (length p.bytes)) (ltb (length b) (length (response_message p))) _ _ b len h

from-zeros : (os : List Offer) (b : List ℕ) → held_by (collector_after_all os (record { image = new_image; buffer = b })) ≡ after_offers os
    (started b)
from-zeros os b = call-steps os (record { image = new_image; buffer = b }) ∙ ap (after_offers os) (zeros-new b)

-- for calls from C: the collector depends on the accepted responses alone, and is complete exactly as SB8 defines it
pub exported-holds-accepted : (os : List Offer) (b : List ℕ) →
    HoldsJoined (accepted_of os (started b)) (held_by (collector_after_all os (record { image = new_image; buffer = b })))
exported-holds-accepted os b = rw (from-zeros os b) (holds-accepted os b)

pub exported-complete-exactly : (os : List Offer) (b : List ℕ) →
    is_complete (held_by (collector_after_all os (record { image = new_image; buffer = b }))).collector ≡ complete_over
    (accepted_of os (started b))
exported-complete-exactly os b = rw (from-zeros os b) (complete-exactly os b)

-- Request E13: "the bytes held are that blob's first ones", for calls from C
pub exported-held-are-first : (blob : List ℕ) (os : List Offer) (b : List ℕ) → Cuts blob os (started b) →
    HoldsFirst blob (held_by (collector_after_all os (record { image = new_image; buffer = b })))
exported-held-are-first blob os b cuts = rw (from-zeros os b) (held-are-first blob os b cuts)

pub exported-complete-holds-blob : (blob : List ℕ) (os : List Offer) (b : List ℕ) → Cuts blob os (started b) →
    is_complete (held_by (collector_after_all os (record { image = new_image; buffer = b }))).collector ≡ true →
    HoldsWhole blob (held_by (collector_after_all os (record { image = new_image; buffer = b })))
exported-complete-holds-blob blob os b cuts done = rw (from-zeros os b) (complete-holds-blob blob os b cuts (rw (from-zeros os b) at done))
