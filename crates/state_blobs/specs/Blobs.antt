-- Calls of one collector with one buffer throughout, and the condition that their responses are cut from one blob. Assumes nothing.
use Rattle.std.specs.Prelude.{ℕ, ◌+◌, ◌≤◌, ◌≡◌, Bool, false, List, [], ◌∷◌, ◌++◌, length, take, eqb, Some, Result, Ok, Err}
use Rattle.words.specs.Word.{part}
use Rattle.state_messages.specs.Messages.{StateResponse, Got, read_response}
use Rattle.state_messages.specs.declared.StateRefusal.{StateRefusal}
use Rattle.state_blobs.specs.Collect.{new_collector, collect}
use Rattle.state_blobs.specs.declared.Collector.{Collector}

-- a message for the collector, with the largest size of its data
pub record Offer : Type 0 where
  pub largest : ℕ
  pub message : List ℕ

-- a collector and its buffer
pub record Held : Type 0 where
  pub collector : Collector
  pub buffer : List ℕ

-- "From a new collector with one buffer throughout" (SB9): any buffer
unfoldable pub started : List ℕ → Held
started b = record { collector = new_collector; buffer = b }

-- the state after one message
unfoldable pub after_offer : Offer → Held → Held
after_offer o h =
    let r = collect o.largest o.message h.collector h.buffer in
    record { collector = r.collector; buffer = r.buffer }

-- the state after a list of messages
unfoldable pub after_offers : List Offer → Held → Held
after_offers [] h = h
after_offers (o ∷ os) h = after_offers os (after_offer o h)

-- the response if it is accepted, otherwise none
unfoldable pub accepted_if : Result (Unit {0}) StateRefusal → Got → List StateResponse
accepted_if (Ok u) (Ok p) = p ∷ []
accepted_if (Ok u) (Err why) = []
accepted_if (Err why) g = []

-- the accepted responses of a list of messages, in order
unfoldable pub accepted_of : List Offer → Held → List StateResponse
accepted_of [] h = []
accepted_of (o ∷ os) h =
    accepted_if (collect o.largest o.message h.collector h.buffer).verdict (read_response o.largest o.message)
    ++ accepted_of os (after_offer o h)

-- the data of the responses, joined
unfoldable pub joined_data : List StateResponse → List ℕ
joined_data [] = []
joined_data (p ∷ ps) = p.bytes ++ joined_data ps

-- the collector after these responses: the totlength of the first, if there are any, and the number of bytes
unfoldable pub collector_over : List StateResponse → Collector
collector_over [] = new_collector
collector_over (p ∷ ps) = record { total = Some p.total; held = length (joined_data (p ∷ ps)) }

-- whether there are any responses, and their bytes add up to the first one's totlength
unfoldable pub complete_over : List StateResponse → Bool
complete_over [] = false
complete_over (p ∷ ps) = eqb (length (joined_data (p ∷ ps))) p.total

-- SB9. Request E13: "cut from one blob at the number of bytes then held, with that blob's length as totlength"
abbrev pub CutFrom : List ℕ → ℕ → StateResponse → Type 0
CutFrom blob held p = (p.total ≡ length blob) × (p.bytes ≡ part held (length p.bytes) blob)

-- "if each response accepted was cut" (SB9): one message, if it is accepted
abbrev pub CutHere : List ℕ → Offer → Held → Type 0
CutHere blob o h = (p : StateResponse) → read_response o.largest o.message ≡ Ok p →
    (collect o.largest o.message h.collector h.buffer).verdict ≡ Ok tt → CutFrom blob h.collector.held p

-- the same for each of a list of messages
unfoldable pub Cuts : List ℕ → List Offer → Held → Type 0
Cuts blob [] h = Unit {0}
Cuts blob (o ∷ os) h = CutHere blob o h × Cuts blob os (after_offer o h)

-- ---- the claims of the theorems
-- SB9: "the bytes held are that blob's first ones"; once a response was accepted, the total is the blob's length
pub record HoldsFirst (blob : List ℕ) (h : Held) : Type 0 where
  pub within : h.collector.held ≤ length blob
  pub bytes : take h.collector.held h.buffer ≡ take h.collector.held blob
  pub whole : (t : ℕ) → h.collector.total ≡ Some t → t ≡ length blob

-- SB7: "A collector joins responses into a lent buffer": the state holds the data of these responses
abbrev pub HoldsJoined : List StateResponse → Held → Type 0
HoldsJoined ps h = (h.collector ≡ collector_over ps) × (take h.collector.held h.buffer ≡ joined_data ps)

-- the bytes held are the whole blob
abbrev pub HoldsWhole : List ℕ → Held → Type 0
HoldsWhole blob h = (h.collector.held ≡ length blob) × (take h.collector.held h.buffer ≡ blob)

-- `n` more bytes of the blob may follow: they exist and fit, and `n` is 0 only if nothing is missing
abbrev pub MayFollow : List ℕ → Held → ℕ → Type 0
MayFollow blob h n =
    (h.collector.held + n ≤ length blob) × (h.collector.held + n ≤ length h.buffer) × (n ≡ 0 → h.collector.held ≡ length blob)

-- the response that carries `n` bytes of a blob, starting at the bytes held
unfoldable pub piece_of : (blob : List ℕ) (flags held n : ℕ) → StateResponse
piece_of blob flags held n = record { result = 0; flags = flags; total = length blob; bytes = part held n blob }
