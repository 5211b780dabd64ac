-- The signer's own step (SQ2, SQ4). Assumes nothing.
use Rattle.std.specs.Prelude.{ℕ, List, [], ◌∷◌, ◌++◌, length, drop, leb, ltb, eqb}
use Rattle.codes.specs.Codes.{fails, if_ok, answer_of}
use Rattle.codes.specs.declared.Code.{Code}
use Rattle.codes.specs.declared.Code.TheVariants.{Ok, Inval, Again}
use Rattle.codes.specs.declared.Answer.{Answer}
use Rattle.queue.specs.declared.Request.{Request}
use Rattle.queue.specs.declared.Queue.{Queue}
use Rattle.queue.specs.declared.QueueResult.{QueueResult}
use Rattle.queue.specs.Queue.{Signed, Lists, oldest_request, queue_next}

-- "signature length not 1 to 104 INVAL; no request AGAIN; eight responses waiting AGAIN;" (SQ2.1 to SQ2.3)
unfoldable pub sign_code : Lists → List ℕ → Code
sign_code q s =
    fails (eqb (length s) 0) Inval
    (fails (ltb 104 (length s)) Inval
    (fails (eqb (length q.requests) 0) Again
    (fails (leb 8 (length q.responses)) Again
    Ok)))

-- the response to a request; rec_granule and req_ticket never change (SQ2, SQ5)
unfoldable pub signed_by : Request → List ℕ → Signed
signed_by r s = record { granule = r.granule; ticket = r.ticket; signature = s }

-- "otherwise the oldest request becomes the newest response." (SQ2)
unfoldable pub signed : Lists → List ℕ → Lists
signed q s = record { requests = drop 1 q.requests; responses = q.responses ++ (signed_by (oldest_request q.requests) s ∷ []) }

-- the answer, and what then waits
pub record SignStep : Type 0 where
  pub answer : Answer
  pub queue : Lists

-- the signer's own step
unfoldable pub sign_of : Lists → List ℕ → SignStep
sign_of q s = record { answer = answer_of (sign_code q s) 0 0; queue = if_ok (sign_code q s) (signed q s) q }

-- the step by value: the answer, and the queue after it
unfoldable pub sign_exit : Queue → SignStep → QueueResult
sign_exit old s = record { answer = s.answer; queue = queue_next s.answer.code s.queue old }
