-- Answers as numbers, and the collector as three lent words, for C. A refused call leaves each lent word and byte unchanged. Assumes
-- nothing.
use Rattle.std.specs.Prelude.{ℕ, cond, List, [], ◌∷◌, get_or, eqb, Option, Some, None, Result, Ok, Err}
use Rattle.state_messages.specs.Messages.{Message}
use Rattle.state_messages.specs.declared.StateRefusal.{StateRefusal}
use Rattle.state_messages.specs.declared.StateRequest.{StateRequest}
use Rattle.state_messages.specs.declared.Piece.{Piece}
use Rattle.state_messages.specs.Numbers.{state_refusal_number}
use Rattle.state_blobs.specs.Collect.{Outcome, collect}
use Rattle.state_blobs.specs.Blobs.{Offer, Held}
use Rattle.state_blobs.specs.declared.Collector.{Collector}

-- ---- reading: the answer, and the four words lent for the parts
pub record PartsLeft : Type 0 where
  pub answer : ℕ
  pub parts : List ℕ

-- after reading a request: code, state_flags, type and offset
unfoldable pub request_left : Result StateRequest StateRefusal → List ℕ → PartsLeft
request_left (Ok q) ws = record { answer = 0; parts = q.code ∷ q.flags ∷ q.kind ∷ q.offset ∷ [] }
request_left (Err why) ws = record { answer = state_refusal_number why; parts = ws }

-- after reading a response: state_flags, totlength, offset and length of the data
unfoldable pub response_left : Result Piece StateRefusal → List ℕ → PartsLeft
response_left (Ok p) ws = record { answer = 0; parts = p.flags ∷ p.total ∷ p.at ∷ p.len ∷ [] }
response_left (Err why) ws = record { answer = state_refusal_number why; parts = ws }

-- ---- writing: the answer, the word lent for the message's length, and the buffer
pub record WriteLeft : Type 0 where
  pub answer : ℕ
  pub len : ℕ
  pub buffer : List ℕ

-- after writing: the length is set only if a message was written
unfoldable pub written_left : Result ℕ StateRefusal → ℕ → List ℕ → WriteLeft
written_left (Ok n) len b = record { answer = 0; len = n; buffer = b }
written_left (Err why) len b = record { answer = state_refusal_number why; len = len; buffer = b }

-- the same, from the definition of writing
abbrev pub write_left : Message → ℕ → WriteLeft
write_left m len = written_left m.answer len m.buffer

-- ---- the collector as three words: accepted, totlength, bytes held. Any first word except 0 means that a response was accepted. (CE1)
unfoldable pub collector_of : List ℕ → Collector
collector_of image = record { total = cond (eqb (get_or image 0 0) 0) None (Some (get_or image 1 0)); held = get_or image 2 0 }

-- the words of a collector
abbrev pub words_of : Option ℕ → ℕ → List ℕ
words_of None held = 0 ∷ 0 ∷ held ∷ []
words_of (Some total) held = 1 ∷ total ∷ held ∷ []

-- the answer, the collector's words and the buffer
pub record CollectLeft : Type 0 where
  pub answer : ℕ
  pub image : List ℕ
  pub buffer : List ℕ

-- after a call of the collector: its words are set only if the response was accepted
unfoldable pub verdict_left : Result (Unit {0}) StateRefusal → Collector → List ℕ → List ℕ → CollectLeft
verdict_left (Ok u) c image b = record { answer = 0; image = words_of c.total c.held; buffer = b }
verdict_left (Err why) c image b = record { answer = state_refusal_number why; image = image; buffer = b }

-- the same, from the definition of collecting
abbrev pub collect_left : Outcome → List ℕ → CollectLeft
collect_left o image = verdict_left o.verdict o.collector image o.buffer

-- ---- calls of the exported collector, one after another, on one image and one buffer
pub record LentCollector : Type 0 where
  pub image : List ℕ
  pub buffer : List ℕ

-- a new collector: three zeros
unfoldable pub new_image : List ℕ
new_image = 0 ∷ 0 ∷ 0 ∷ []

-- the image and the buffer after one call
unfoldable pub collector_after : Offer → LentCollector → LentCollector
collector_after o l =
    let r = collect_left (collect o.largest o.message (collector_of l.image) l.buffer) l.image in
    record { image = r.image; buffer = r.buffer }

-- the same after a list of calls
unfoldable pub collector_after_all : List Offer → LentCollector → LentCollector
collector_after_all [] l = l
collector_after_all (o ∷ os) l = collector_after_all os (collector_after o l)

-- the collector of the image, and the buffer
unfoldable pub held_by : LentCollector → Held
held_by l = record { collector = collector_of l.image; buffer = l.buffer }
