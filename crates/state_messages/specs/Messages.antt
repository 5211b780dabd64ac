-- The request for a piece of a state blob and the response that carries one, read and written (SB1, SB2). Request E13: "all numbers 4-byte
-- big-endian: command code, state_flags, type and offset; the response is tpm_result, state_flags, totlength, length and that many bytes of
-- data". Assumes nothing.
use Rattle.std.specs.Prelude.{ℕ, ◌+◌, ◌^◌, ◌<◌, cond, List, ◌++◌, length, drop, ltb, eqb, Result, Ok, Err}
use Rattle.std.specs.Result.{result_and}
use Rattle.words.specs.Word.{splice}
use Rattle.big_words.specs.Big.{be_bytes, big_at}
use Rattle.state_messages.specs.declared.StateRequest.{StateRequest}
use Rattle.state_messages.specs.declared.ResponseHeader.{ResponseHeader}
use Rattle.state_messages.specs.declared.Piece.{Piece}
use Rattle.state_messages.specs.declared.StateRefusal.{StateRefusal}
use Rattle.state_messages.specs.declared.StateRefusal.TheVariants as refusal

-- a response; its length field is the number of bytes of data
pub record StateResponse : Type 0 where
  pub result : ℕ
  pub flags : ℕ
  pub total : ℕ
  pub bytes : List ℕ

-- the response to write: its numbers and its data
abbrev pub response_of : ResponseHeader → List ℕ → StateResponse
response_of h bytes = record { result = h.result; flags = h.flags; total = h.total; bytes = bytes }

-- both messages start with four numbers
unfoldable pub head_bytes : (a b c d : ℕ) → List ℕ
head_bytes a b c d = be_bytes 4 a ++ be_bytes 4 b ++ be_bytes 4 c ++ be_bytes 4 d

-- the bytes of a request
unfoldable pub request_message : StateRequest → List ℕ
request_message q = head_bytes q.code q.flags q.kind q.offset

-- the bytes of a response
unfoldable pub response_message : StateResponse → List ℕ
response_message p = head_bytes p.result p.flags p.total (length p.bytes) ++ p.bytes

-- the numbers have 32 bits, as all in the code do; the theorems on reading back assume it
pub record Fits32Request (q : StateRequest) : Type 0 where
  pub code : q.code < 2 ^ 32
  pub flags : q.flags < 2 ^ 32
  pub kind : q.kind < 2 ^ 32
  pub offset : q.offset < 2 ^ 32

-- the same for a response
pub record Fits32Response (p : StateResponse) : Type 0 where
  pub result : p.result < 2 ^ 32
  pub flags : p.flags < 2 ^ 32
  pub total : p.total < 2 ^ 32
  pub bytes : length p.bytes < 2 ^ 32

-- ---- reading (SB4). Request E13: "Refusals, in order, when reading: message cut short or too long; wrong code; length above the largest;
-- tpm_result not zero". A request has a code and no length, a response a length and no code.
-- a message of `n` bytes that is to have `whole`
abbrev pub length_verdict : (n whole : ℕ) → Result (Unit {0}) StateRefusal
length_verdict n whole = cond (ltb n whole) (Err refusal.CutShort) (cond (ltb whole n) (Err refusal.TooLong) (Ok tt))

-- data of `n` bytes; readers and writers refuse more than `largest`
abbrev pub largest_verdict : (n largest : ℕ) → Result (Unit {0}) StateRefusal
largest_verdict n largest = cond (ltb largest n) (Err refusal.AboveLargest) (Ok tt)

unfoldable pub request_parts : List ℕ → StateRequest
request_parts m = record { code = big_at 4 0 m; flags = big_at 4 4 m; kind = big_at 4 8 m; offset = big_at 4 12 m }

-- a request read with the expected `code`
unfoldable pub read_request : ℕ → List ℕ → Result StateRequest StateRefusal
read_request code m =
    result_and (length_verdict (length m) 16)
    (cond (eqb (big_at 4 0 m) code)
    (Ok (request_parts m))
    (Err refusal.WrongCode))

-- the parts of a response
unfoldable pub response_parts : List ℕ → StateResponse
response_parts m = record { result = big_at 4 0 m; flags = big_at 4 4 m; total = big_at 4 8 m; bytes = drop 16 m }

-- a response that was read, or the refusal
abbrev pub Got : Type 0
Got = Result StateResponse StateRefusal

-- SB5: The length field is compared with the message first. A message of fewer than 16 bytes is cut short, for any length field.
unfoldable pub read_response : ℕ → List ℕ → Got
read_response largest m =
    result_and (length_verdict (length m) (16 + big_at 4 12 m))
    (result_and (largest_verdict (big_at 4 12 m) largest)
    (cond (eqb (big_at 4 0 m) 0)
    (Ok (response_parts m))
    (Err refusal.Failed)))

-- what the code returns for a response: its data by offset and length, after the four numbers
unfoldable pub response_read : Got → Result Piece StateRefusal
response_read (Ok p) = Ok (record { flags = p.flags; total = p.total; at = 16; len = length p.bytes })
response_read (Err why) = Err why

-- ---- writing, at the start of a buffer (SB4, SB6). Request E13: "Writing refuses a length above the largest, then no room." and "On
-- refusal ..
-- lent buffers stay unchanged." A request has no length to refuse.
pub record Message : Type 0 where
  pub answer : Result ℕ StateRefusal
  pub buffer : List ℕ

-- the answer of a refused write; the buffer is unchanged
abbrev pub not_written : StateRefusal → List ℕ → Message
not_written why b = record { answer = Err why; buffer = b }

-- a buffer of `n` bytes that is to take `whole`
abbrev pub room_verdict : (n whole : ℕ) → Result (Unit {0}) StateRefusal
room_verdict n whole = cond (ltb n whole) (Err refusal.NoRoom) (Ok tt)

-- a check before a write: refused, or the write
abbrev pub written_after : Result (Unit {0}) StateRefusal → List ℕ → Message → Message
written_after (Ok u) b w = w
written_after (Err why) b w = not_written why b

-- a message written at the start of a buffer, or no room (SB6)
unfoldable pub write_message : List ℕ → List ℕ → Message
write_message vs b =
    written_after (room_verdict (length b) (length vs)) b
    (record { answer = Ok (length vs); buffer = splice 0 vs b })

-- a request written
unfoldable pub write_request : StateRequest → List ℕ → Message
write_request q b = write_message (request_message q) b

-- a response written: first the check of the largest size, then the room (SB4)
unfoldable pub write_response : ℕ → StateResponse → List ℕ → Message
write_response largest p b =
    written_after (largest_verdict (length p.bytes) largest) b
    (write_message (response_message p) b)
