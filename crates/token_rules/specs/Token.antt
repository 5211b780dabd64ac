-- 0xC40001B3: platform token, and the lookup of its challenge (CM5). Assumes nothing.
use Rattle.std.specs.Prelude.{ℕ, ◌+◌, ◌-◌, min, Bool, true, false, cond, not, List, [], length, ltb, eqb, ℤ, pos}
use Rattle.words.specs.Tests.{both, either}
use Rattle.words.specs.Word.{part, splice, no_span, span_at}
use Rattle.words.specs.declared.Span.{Span}
use Rattle.boot.specs.declared.Record.{Record}
use Rattle.buffer_check.specs.Range.{place_of, page_code, page_number}
use Rattle.buffer_check.specs.declared.OutsideAs.TheVariants.{BadAddress}
use Rattle.codes.specs.Codes.{minus, is_false, fails, boot_params, if_ok, and_then, answer_of}
use Rattle.codes.specs.declared.Code.{Code}
use Rattle.codes.specs.declared.Code.TheVariants.{Ok, Unk, Inval, Again}
use Rattle.codes.specs.declared.Answer.{Answer}
use Rattle.token_rules.specs.declared.TokenResult.{TokenResult}
use Rattle.token_rules.specs.declared.Session.{Session}
use Rattle.token_rules.specs.declared.Session.TheVariants.{Idle, Sending}

-- ---- a session: none, or the token's length at its start and how many bytes are sent
-- whether there is no session
unfoldable pub is_idle : Session → Bool
is_idle Idle = true
is_idle (Sending whole sent) = false

-- the length of the session's token
unfoldable pub whole_of : Session → ℕ
whole_of Idle = 0
whole_of (Sending whole sent) = whole

-- the number of bytes that are sent
unfoldable pub sent_of : Session → ℕ
sent_of Idle = 0
sent_of (Sending whole sent) = sent

-- ---- the checks
-- whether c_size is 0, 32, 48 or 64
unfoldable pub listed : ℕ → Bool
listed c = either (eqb c 0) (either (eqb c 32) (either (eqb c 48) (eqb c 64)))

-- "c_size not 0, 32, 48 or 64 INVAL; c_size above the buffer's size INVAL;" (CM5.5, CM5.6)
unfoldable pub csize_code : ℕ → ℕ → Code
csize_code size c = fails (is_false (listed c)) Inval (fails (ltb size c) Inval Ok)

-- "platform busy AGAIN; outside BAD_ADDR; too long INVAL;" (CM5.2 to CM5.4), then the checks of c_size: the checks that token and challenge
-- share
unfoldable pub buffer_code : (state : Record) (len : ℕ) (busy : Bool) (pa size csize : ℕ) → Code
buffer_code r len busy pa size c = and_then (page_code r len (fails busy Again Ok) BadAddress pa size) (csize_code size c)

-- "c_size 0 with no session INVAL; token empty, or with c_size 0 of another length than at the session's start, UNK." (CM5.7, CM5.8)
unfoldable pub start_code : Session → ℕ → ℕ → Code
start_code s c len =
    fails (both (eqb c 0) (is_idle s)) Inval
    (fails (either (eqb len 0) (both (eqb c 0) (is_false (eqb len (whole_of s))))) Unk
    Ok)

-- all checks of a token call, in this order
unfoldable pub token_code : (state : Record) (page : List ℕ) (session : Session) (busy : Bool) (token : List ℕ) (pa size csize : ℕ) → Code
token_code r page s busy token pa size c = and_then (buffer_code r (length page) busy pa size c) (start_code s c (length token))

-- ---- a call that passes the checks
-- "A nonzero c_size always starts again, also in mid-session" (CM5.9): the offset in the token at which the call starts
unfoldable pub begin_of : Session → ℕ → ℕ
begin_of s c = cond (eqb c 0) (sent_of s) 0

-- "the next hunk, the smaller of buffer and rest" (CM5.10): the length of the hunk at offset i. If i exceeds the token, which no call
-- leaves, the hunk is empty.
unfoldable pub hunk_of : List ℕ → ℕ → ℕ → ℕ
hunk_of token i size = min size (length token - i)

-- the rest after that hunk (CM5.10)
unfoldable pub rest_of : List ℕ → ℕ → ℕ → ℕ
rest_of token i size = length token - i - hunk_of token i size

-- "At rest 0 the session ends." (CM5.11)
unfoldable pub next_session : List ℕ → ℕ → ℕ → Session
next_session token i size = cond (eqb (rest_of token i size) 0) Idle (Sending (length token) (i + hunk_of token i size))

-- the result of a token call: the answer, the page at exit and the next session
pub record TokenStep : Type 0 where
  pub answer : Answer
  pub page : List ℕ
  pub session : Session

-- the same from the returned value and the page at exit
abbrev pub token_exit : TokenResult → List ℕ → TokenStep
token_exit t page = record { answer = t.answer; page = page; session = t.session }

-- "Each OK writes the next hunk, the smaller of buffer and rest, at pa; x1 is the hunk, x2 the rest." (CM5.10)
unfoldable pub send_of : ℕ → List ℕ → ℕ → ℕ → List ℕ → TokenStep
send_of at token i size page =
    record {
      answer = answer_of Ok (hunk_of token i size) (rest_of token i size);
      page = splice at (part i (hunk_of token i size) token) page;
      session = next_session token i size;
    }

-- a refusal: zeros in x1 and x2, page and session unchanged (GE4)
unfoldable pub keeps : Code → List ℕ → Session → TokenStep
keeps k page s = record { answer = answer_of k 0 0; page = page; session = s }

-- the result of a call with code k: `new` if k is OK, otherwise a refusal
unfoldable pub settled : Code → TokenStep → List ℕ → Session → TokenStep
settled k new page s = if_ok k new (keeps k page s)

-- the platform token command
unfoldable pub token_of : (state : Record) (page : List ℕ) (session : Session) (busy : Bool) (token : List ℕ) (pa size csize : ℕ) → TokenStep
token_of r page s busy token pa size c =
    settled (token_code r page s busy token pa size c) (send_of (place_of (boot_params r) pa) token (begin_of s c) size page) page s

-- ---- the challenge
-- "A lookup before a start shows the challenge, c_size bytes at pa, as that part of the page; empty if the record is not up, the page is
-- not 4,096 bytes long, or a BAD_ADDR or INVAL check above fails." (CM5.16) A busy platform does not matter. The INVAL check of c_size 0
-- needs no case: the part is then empty.
unfoldable pub challenge_of : (state : Record) (page : List ℕ) (pa size csize : ℕ) → List ℕ
challenge_of r page pa size c = if_ok (buffer_code r (length page) false pa size c) (part (place_of (boot_params r) pa) c page) []

-- the challenge's place in the page; offset 0 and length 0 if a check fails (CM5.16)
unfoldable pub challenge_span : (state : Record) (page : List ℕ) (pa size csize : ℕ) → Span
challenge_span r page pa size c = if_ok (buffer_code r (length page) false pa size c) (span_at (place_of (boot_params r) pa) c) no_span

-- the number of the lookup's first check that fails, in the order of docs/RULES.md, which leaves out the platform's; OK's 0 if none does. A
-- c_size that is not 0, 32, 48 or 64, or above the buffer's size, is INVAL, -5.
unfoldable pub challenge_number : Record → (len pa size c : ℕ) → ℤ
challenge_number r len pa size c =
    page_number r len Ok BadAddress pa size
    (cond (not (listed c)) (minus 5)
    (cond (ltb size c) (minus 5)
    (pos 0)))
