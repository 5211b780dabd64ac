-- 0xC40001B5, pull: the oldest response into a buffer (CM7). Assumes nothing.
use Rattle.std.specs.Prelude.{ℕ, ◌+◌, List, ◌++◌, length, drop, ltb, eqb}
use Rattle.words.specs.Word.{le_bytes, splice}
use Rattle.codes.specs.Codes.{fails, answer_of}
use Rattle.codes.specs.declared.Code.{Code}
use Rattle.codes.specs.declared.Code.TheVariants.{Ok, Inval, Again}
use Rattle.queue.specs.Queue.{Signed, Lists, SigningStep, queued, oldest_response}

-- "writes rec_granule, req_ticket, 2-byte length, signature" (CM7.18)
unfoldable pub response_bytes : Signed → List ℕ
response_bytes r = le_bytes 8 r.granule ++ le_bytes 8 r.ticket ++ le_bytes 2 (length r.signature) ++ r.signature

-- "Pull (2): no response AGAIN; 18 + signature length above size INVAL, response kept;" (CM7.11, CM7.12)
unfoldable pub pull_code : ℕ → Lists → Code
pull_code size q =
    fails (eqb (length q.responses) 0) Again
    (fails (ltb size (18 + length (oldest_response q.responses).signature)) Inval
    Ok)

-- "and drops it." (CM7.16)
unfoldable pub pulled : Lists → Lists
pulled q = record { requests = q.requests; responses = drop 1 q.responses }

-- a pull into the buffer b
unfoldable pub pull_of : List ℕ → Lists → SigningStep
pull_of b q =
    queued (pull_code (length b) q)
    (record { answer = answer_of Ok 0 0; page = splice 0 (response_bytes (oldest_response q.responses)) b; queue = pulled q })
    b q
