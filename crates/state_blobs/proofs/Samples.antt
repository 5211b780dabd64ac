-- Small messages and their results: a check of the definitions. Assumes nothing.
use Prim.Native.Nat.{ℕ}
use mathlib.Core.Path.{◌≡◌, refl}
use mathlib.Core.Bool.{true, false}
use mathlib.Core.List.{List, [], ◌∷◌, ◌++◌}
use lib.ListN.{replicate}
use Rattle.std.specs.Prelude.{Some, Ok, Err}
use Rattle.words.specs.Tests.{both}
use Rattle.words.specs.Word.{le_of, le_bytes, part, splice}
use Rattle.big_words.specs.Big.{be_of, be_bytes, big_at}
use Rattle.state_messages.specs.Messages.{StateResponse, head_bytes, request_message, response_message, request_parts}
use Rattle.state_messages.specs.Messages.{read_request, response_parts, read_response, not_written, write_message, write_request, write_response}
use Rattle.state_blobs.specs.Collect.{new_collector, is_complete, other_total, decide, unchanged, piece_appended, settle, offer_bytes}
use Rattle.state_blobs.specs.Collect.{collect_got, collect}
use Rattle.state_messages.specs.declared.StateRefusal.TheVariants as refusal
use Rattle.state_blobs.specs.declared.Collector.{Collector}

-- a small number in four bytes
unfoldable small : ℕ → List ℕ
small x = 0 ∷ 0 ∷ 0 ∷ x ∷ []

-- a response with that result, total and length, followed by the bytes
unfoldable message : ℕ → ℕ → ℕ → List ℕ → List ℕ
message result total n bytes = small result ++ (small 1 ++ (small total ++ (small n ++ bytes)))

unfoldable holds : ℕ → ℕ → Collector
holds total held = record { total = Some total; held = held }

unfoldable two_bytes : StateResponse
two_bytes = record { result = 3; flags = 1; total = 5; bytes = 7 ∷ 8 ∷ [] }

samples :
    (be_of (1 ∷ 2 ∷ 3 ∷ 4 ∷ []) ≡ 0x01020304)
    × (be_bytes 4 0x01020304 ≡ 1 ∷ 2 ∷ 3 ∷ 4 ∷ [])
    -- a request; another code; 15 and 17 bytes
    × (read_request 12 (small 12 ++ (small 1 ++ (small 2 ++ small 3))) ≡ Ok
    (record { code = 12; flags = 1; kind = 2; offset = 3 }))
    × (read_request 13 (small 12 ++ (small 1 ++ (small 2 ++ small 3))) ≡ Err refusal.WrongCode)
    × (read_request 12 (replicate 15 0) ≡ Err refusal.CutShort)
    × (read_request 12 (replicate 17 0) ≡ Err refusal.TooLong)
    -- a response; its length not that of the message, above the largest, its result not zero, and both of these
    × (read_response 9 (message 0 5 2 (7 ∷ 8 ∷ [])) ≡ Ok (record { result = 0; flags = 1; total = 5; bytes = 7 ∷ 8 ∷ [] }))
    × (read_response 9 (message 0 5 3 (7 ∷ 8 ∷ [])) ≡ Err refusal.CutShort)
    × (read_response 9 (message 0 5 1 (7 ∷ 8 ∷ [])) ≡ Err refusal.TooLong)
    × (read_response 9 (replicate 4 1) ≡ Err refusal.CutShort)
    × (read_response 1 (message 0 5 2 (7 ∷ 8 ∷ [])) ≡ Err refusal.AboveLargest)
    × (read_response 9 (message 3 5 2 (7 ∷ 8 ∷ [])) ≡ Err refusal.Failed)
    × (read_response 1 (message 3 5 2 (7 ∷ 8 ∷ [])) ≡ Err refusal.AboveLargest)
    -- both messages written, with bytes after them; above the largest and no room, then no room alone
    × (write_request (record { code = 12; flags = 1; kind = 2; offset = 3 })
    (replicate 17 9) ≡ record { answer = Ok 16; buffer = small 12 ++ (small 1 ++ (small 2 ++ (small 3 ++ (9 ∷ [])))) })
    × (write_request (record { code = 12; flags = 1; kind = 2; offset = 3 }) (replicate 15 9) ≡ not_written refusal.NoRoom (replicate 15 9))
    × (write_response 2 two_bytes (replicate 19 9) ≡ record { answer = Ok 18; buffer = message 3 5 2 (7 ∷ 8 ∷ 9 ∷ []) })
    × (write_response 1 two_bytes (replicate 17 9) ≡ not_written refusal.AboveLargest (replicate 17 9))
    × (write_response 2 two_bytes (replicate 17 9) ≡ not_written refusal.NoRoom (replicate 17 9))
    -- a first piece, the last one, and each refusal of the collector
    × (collect 9 (message 0 3 2 (7 ∷ 8 ∷ [])) new_collector
    (replicate 3 0) ≡ record { verdict = Ok tt; collector = holds 3 2; buffer = 7 ∷ 8 ∷ 0 ∷ [] })
    × (collect 9 (message 0 3 1 (9 ∷ [])) (holds 3 2) (7 ∷ 8 ∷ 0 ∷ []) ≡
    record { verdict = Ok tt; collector = holds 3 3; buffer = 7 ∷ 8 ∷ 9 ∷ [] })
    × (collect 9 (message 0 4 1 (9 ∷ [])) (holds 3 2) (replicate 3 0) ≡ unchanged refusal.TotalDiffers (holds 3 2) (replicate 3 0))
    × (collect 9 (message 0 3 2 (9 ∷ 9 ∷ [])) (holds 3 2) (replicate 3 0) ≡ unchanged refusal.PastTotal (holds 3 2) (replicate 3 0))
    × (collect 9 (message 0 3 1 (9 ∷ [])) (holds 3 2) (replicate 2 0) ≡ unchanged refusal.PastBuffer (holds 3 2) (replicate 2 0))
    × (collect 9 (message 0 3 0 []) (holds 3 2) (replicate 3 0) ≡ unchanged refusal.NoData (holds 3 2) (replicate 3 0))
    -- two reasons to refuse: the first in order decides; a totlength below the first one's also differs
    × (collect 9 (message 0 2 1 (9 ∷ [])) (holds 3 2) (replicate 2 0) ≡ unchanged refusal.TotalDiffers (holds 3 2) (replicate 2 0))
    × (collect 9 (message 0 3 2 (9 ∷ 9 ∷ [])) (holds 3 2) (replicate 2 0) ≡ unchanged refusal.PastTotal (holds 3 2) (replicate 2 0))
    × (collect 9 (message 0 3 0 []) (holds 3 2) (replicate 1 0) ≡ unchanged refusal.PastBuffer (holds 3 2) (replicate 1 0))
    -- a blob of no bytes
    × (collect 9 (message 0 0 0 []) new_collector [] ≡ record { verdict = Ok tt; collector = holds 0 0; buffer = [] })
    × (is_complete (holds 0 0) ≡ true)
    × (is_complete new_collector ≡ false)
unfolding be_of be_bytes big_at le_of le_bytes part splice both head_bytes request_message response_message read_request request_parts read_response
    response_parts write_message write_request write_response collect collect_got offer_bytes settle decide other_total piece_appended unchanged
    new_collector is_complete small message holds two_bytes
samples = (
  refl,
  refl,
  refl,
  refl,
  refl,
  refl,
  refl,
  refl,
  refl,
  refl,
  refl,
  refl,
  refl,
  refl,
  refl,
  refl,
  refl,
  refl,
  refl,
  refl,
  refl,
  refl,
  refl,
  refl,
  refl,
  refl,
  refl,
  refl,
  refl,
  refl,
)
