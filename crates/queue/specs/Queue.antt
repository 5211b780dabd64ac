-- The signing queue as lists, the oldest first. "eight requests waiting: AGAIN; otherwise the request joins the end." (CM7.10, CM7.15);
-- "The oldest request, all its fields, can be asked for; none is a named answer. Freed places are used again." (SQ3, SQ6) Assumes nothing.
use Rattle.std.specs.Prelude.{ℕ, ◌-◌, cond, List, [], ◌∷◌, ◌++◌, map, length, take, get_or, replicate, ltb, Option, Some, None}
use Rattle.codes.specs.Codes.{if_ok, answer_of}
use Rattle.codes.specs.declared.Code.{Code}
use Rattle.codes.specs.declared.Answer.{Answer}
use Rattle.queue.specs.declared.Request.{Request}
use Rattle.queue.specs.declared.Response.{Response}
use Rattle.queue.specs.declared.Side.{Side}
use Rattle.queue.specs.declared.Queue.{Queue}
use Rattle.queue.specs.declared.QueueResult.{QueueResult}

-- a response: the request's granule and ticket, and the signature
pub record Signed : Type 0 where
  pub granule : ℕ
  pub ticket : ℕ
  pub signature : List ℕ

-- what waits on both sides
pub record Lists : Type 0 where
  pub requests : List Request
  pub responses : List Signed

-- ---- the lists that the arrays hold: `count` entries, at most eight; `len` bytes of a signature
-- the entries that wait
unfoldable pub waiting : {T : Type 0} → Side T → List T
waiting side = take side.count side.items

-- a response with its signature as a list
unfoldable pub signed_in : Response → Signed
signed_in r = record { granule = r.granule; ticket = r.ticket; signature = take r.len r.signature }

-- the responses that wait
unfoldable pub waiting_signed : Side Response → List Signed
waiting_signed side = map signed_in (waiting side)

-- both sides of a queue as lists (SQ1, SQ7)
unfoldable pub lists_of : Queue → Lists
lists_of q = record { requests = waiting q.requests; responses = waiting_signed q.responses }

-- the list with x at its end if it has fewer than eight entries, otherwise unchanged
unfoldable pub appended : {A : Type 0} → List A → A → List A
appended l x = cond (ltb (length l) 8) (l ++ (x ∷ [])) l

-- ---- zeros, the content of a free place
-- a free place of the requests
unfoldable pub no_request : Request
no_request = record { algorithm = 0; granule = 0; ticket = 0; hashid = 0; hash = replicate 48 0 }

-- a free place of the responses
unfoldable pub no_response : Response
no_response = record { granule = 0; ticket = 0; len = 0; signature = replicate 104 0 }

-- ---- the oldest; zeros if no entry waits
-- the oldest request
unfoldable pub oldest_request : List Request → Request
oldest_request l = get_or l 0 no_request

-- the oldest response
unfoldable pub oldest_response : List Signed → Signed
oldest_response l = get_or l 0 (record { granule = 0; ticket = 0; signature = [] })

-- the oldest request, if one waits (SQ3)
unfoldable pub oldest_of : List Request → Option Request
oldest_of [] = None
oldest_of (r ∷ l) = Some r

-- ---- the queue that holds these lists and nothing else: zeros in every place after what waits, and after each signature
-- the list l, filled with x to n places
unfoldable pub pad_to : {A : Type 0} → ℕ → A → List A → List A
pad_to n x l = l ++ replicate (n - length l) x

-- the side on which these entries wait; a free place holds z
abbrev pub side_of : {T : Type 0} → T → List T → Side T
side_of z l = record { items = pad_to 8 z l; count = length l }

-- the side of these requests
unfoldable pub requests_holding : List Request → Side Request
requests_holding l = record { items = pad_to 8 no_request l; count = length l }

-- the response with this signature, zeros after it
unfoldable pub response_holding : Signed → Response
response_holding s = record { granule = s.granule; ticket = s.ticket; len = length s.signature; signature = pad_to 104 0 s.signature }

-- the side of these responses
unfoldable pub responses_holding : List Signed → Side Response
responses_holding l = record { items = pad_to 8 no_response (map response_holding l); count = length l }

-- the queue that holds these lists (SQ6)
unfoldable pub queue_holding : Lists → Queue
queue_holding q = record { requests = requests_holding q.requests; responses = responses_holding q.responses }

-- ---- a signing command: the answer, the page at exit, and what then waits
pub record SigningStep : Type 0 where
  pub answer : Answer
  pub page : List ℕ
  pub queue : Lists

-- the result of a call with code k: `new` if k is OK; a refusal has zeros in x1 and x2 and leaves page and queue unchanged
unfoldable pub queued : Code → SigningStep → List ℕ → Lists → SigningStep
queued k new page q = if_ok k new (record { answer = answer_of k 0 0; page = page; queue = q })

-- ---- what a call returns: the answer, the page at exit, and the queue
pub record SigningExit : Type 0 where
  pub answer : Answer
  pub page : List ℕ
  pub queue : Queue

-- the same from the returned value and the page at exit
abbrev pub signing_exit : QueueResult → List ℕ → SigningExit
signing_exit r page = record { answer = r.answer; page = page; queue = r.queue }

-- after an OK the queue holds what then waits and nothing else; after a refusal it is unchanged (SQ6, GE4)
unfoldable pub queue_next : Code → Lists → Queue → Queue
queue_next k new old = if_ok k (queue_holding new) old

-- the result s of a call on the queue `old`
unfoldable pub exit_of : Queue → SigningStep → SigningExit
exit_of old s = record { answer = s.answer; page = s.page; queue = queue_next s.answer.code s.queue old }
