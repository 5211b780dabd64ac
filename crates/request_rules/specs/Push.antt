-- 0xC40001B5, push: a request in a buffer (CM7). Assumes nothing.
use Rattle.std.specs.Prelude.{ℕ, List, [], ◌∷◌, ◌++◌, length, leb, ltb, eqb}
use Rattle.words.specs.Word.{part, word_at, u32_at}
use Rattle.codes.specs.Codes.{is_false, fails, answer_of}
use Rattle.codes.specs.declared.Code.{Code}
use Rattle.codes.specs.declared.Code.TheVariants.{Ok, Inval, Again}
use Rattle.queue.specs.declared.Request.{Request}
use Rattle.queue.specs.Queue.{Lists, SigningStep, queued}

-- "Request offsets: algorithm 0 (4 bytes), rec_granule 8, req_ticket 16, hash id 24 (4 bytes), hash 32 (48 bytes); holes ignored." (CM7.15,
-- CM7.18)
unfoldable pub request_of : List ℕ → Request
request_of b =
    record {
      algorithm = u32_at 0 b;
      granule = word_at 8 b;
      ticket = word_at 16 b;
      hashid = u32_at 24 b;
      hash = part 32 48 b;
    }

-- "Push (1): size below 80, algorithm id not 0 or hash id not 1: INVAL; eight requests waiting: AGAIN;" (CM7.7 to CM7.10)
unfoldable pub push_code : List ℕ → Lists → Code
push_code b q =
    fails (ltb (length b) 80) Inval
    (fails (is_false (eqb (request_of b).algorithm 0)) Inval
    (fails (is_false (eqb (request_of b).hashid 1)) Inval
    (fails (leb 8 (length q.requests)) Again
    Ok)))

-- "otherwise the request joins the end." (CM7.15)
unfoldable pub pushed : List ℕ → Lists → Lists
pushed b q = record { requests = q.requests ++ (request_of b ∷ []); responses = q.responses }

-- a push of the request in the buffer b, which is unchanged
unfoldable pub push_of : List ℕ → Lists → SigningStep
push_of b q = queued (push_code b q) (record { answer = answer_of Ok 0 0; page = b; queue = pushed b q }) b q
