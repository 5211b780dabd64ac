-- The collector (SB7). Request E13: "A collector joins responses into a lent buffer, each after the bytes held." Assumes nothing.
use Rattle.std.specs.Prelude.{ℕ, ◌+◌, Bool, false, cond, not, List, length, ltb, eqb, Option, Some, None, Result, Ok, Err}
use Rattle.words.specs.Tests.{both}
use Rattle.words.specs.Word.{splice}
use Rattle.state_messages.specs.Messages.{Got, read_response}
use Rattle.state_messages.specs.declared.StateRefusal.{StateRefusal}
use Rattle.state_messages.specs.declared.StateRefusal.TheVariants as refusal
use Rattle.state_blobs.specs.declared.Collector.{Collector}

-- a collector that holds nothing (CE1)
unfoldable pub new_collector : Collector
new_collector = record { total = None; held = 0 }

-- the test of the totlength of the first accepted response, and false before there is one
abbrev pub first_total : Option ℕ → (ℕ → Bool) → Bool
first_total None f = false
first_total (Some t) f = f t

-- SB8. Request E13: "It is complete exactly when a response was accepted and it holds totlength bytes."
unfoldable pub is_complete : Collector → Bool
is_complete c = first_total c.total (λ t. eqb c.held t)

-- "totlength differs from the first" (SB4): from that of the first accepted response
unfoldable pub other_total : Collector → ℕ → Bool
other_total c total = first_total c.total (λ t. not (eqb t total))

-- SB4. Request E13: "in the collector then: totlength differs from the first; held and new bytes past totlength; past the buffer; no data
-- while bytes are missing": for `n` new bytes of a blob, its total, and the size of the buffer
unfoldable pub decide : Collector → ℕ → ℕ → ℕ → Result (Unit {0}) StateRefusal
decide c total n room =
    cond (other_total c total) (Err refusal.TotalDiffers)
    (cond (ltb total (c.held + n)) (Err refusal.PastTotal)
    (cond (ltb room (c.held + n)) (Err refusal.PastBuffer)
    (cond (both (eqb n 0) (ltb c.held total)) (Err refusal.NoData)
    (Ok tt))))

-- the answer of a call, and the collector and buffer after it
pub record Outcome : Type 0 where
  pub verdict : Result (Unit {0}) StateRefusal
  pub collector : Collector
  pub buffer : List ℕ

-- SB10. Request E13: "On refusal collector and lent buffers stay unchanged."
unfoldable pub unchanged : StateRefusal → Collector → List ℕ → Outcome
unchanged why c b = record { verdict = Err why; collector = c; buffer = b }

-- "each after the bytes held" (SB7): the new bytes `vs` are appended
unfoldable pub piece_appended : Collector → ℕ → List ℕ → List ℕ → Outcome
piece_appended c total vs b =
    record {
      verdict = Ok tt;
      collector = record { total = Some total; held = c.held + length vs };
      buffer = splice c.held vs b;
    }

-- the outcome of a verdict: bytes appended, or everything unchanged
unfoldable pub settle : Result (Unit {0}) StateRefusal → Collector → ℕ → List ℕ → List ℕ → Outcome
settle (Ok u) c total vs b = piece_appended c total vs b
settle (Err why) c total vs b = unchanged why c b

-- the outcome for new bytes: `decide`, then `settle`
unfoldable pub offer_bytes : Collector → ℕ → List ℕ → List ℕ → Outcome
offer_bytes c total vs b = settle (decide c total (length vs) (length b)) c total vs b

-- the outcome for a response that was read or refused
unfoldable pub collect_got : Got → Collector → List ℕ → Outcome
collect_got (Ok p) c b = offer_bytes c p.total p.bytes b
collect_got (Err why) c b = unchanged why c b

-- the outcome for a message, with the largest size of data: the reader's refusals come first (SB4)
unfoldable pub collect : ℕ → List ℕ → Collector → List ℕ → Outcome
collect largest m c b = collect_got (read_response largest m) c b
