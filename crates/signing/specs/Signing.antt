-- 0xC40001B5: token signing (CM7). Assumes nothing.
use Rattle.std.specs.Prelude.{ℕ, Bool, true, false, cond, List, length, ltb, eqb}
use Rattle.words.specs.Word.{part, splice}
use Rattle.boot.specs.declared.Record.{Record}
use Rattle.buffer_check.specs.Range.{place_of, page_code}
use Rattle.buffer_check.specs.declared.OutsideAs.TheVariants.{Invalid}
use Rattle.codes.specs.Codes.{is_false, fails, and_then, boot_params, answer_of}
use Rattle.codes.specs.declared.Code.{Code}
use Rattle.codes.specs.declared.Code.TheVariants.{Ok, Unk, Inval, Again}
use Rattle.queue.specs.Queue.{Lists, SigningStep, queued}
use Rattle.request_rules.specs.Push.{push_of}
use Rattle.response_rules.specs.Pull.{pull_of}
use Rattle.signing.specs.declared.Opcode.{Opcode}
use Rattle.signing.specs.declared.Opcode.TheVariants.{Push, Pull, Key, Other}

-- the opcode, compared as 64 bits: "Push (1)", "Pull (2)", "Key (3)" (CM7.2)
unfoldable pub opcode_of : ℕ → Opcode
opcode_of n = cond (eqb n 1) Push (cond (eqb n 2) Pull (cond (eqb n 3) Key Other))

-- whether the opcode is not 1, 2 or 3
unfoldable pub is_other : Opcode → Bool
is_other Push = false
is_other Pull = false
is_other Key = false
is_other Other = true

-- "opcode 3 with curve not 0" (CM7.5): the other opcodes have no curve
unfoldable pub bad_curve : Opcode → ℕ → Bool
bad_curve Push curve = false
bad_curve Pull curve = false
bad_curve Key curve = is_false (eqb curve 0)
bad_curve Other curve = false

-- "opcode not 1 to 3, outside, too long, or opcode 3 with curve not 0: INVAL; minor below 4: UNK." (CM7.2 to CM7.6): the checks that all
-- opcodes share
unfoldable pub shared_code : Record → ℕ → Opcode → ℕ → ℕ → ℕ → Code
shared_code r len o pa size curve =
    and_then (page_code r len (fails (is_other o) Inval Ok) Invalid pa size)
    (fails (bad_curve o curve) Inval
    (fails (ltb (boot_params r).minor 4) Unk
    Ok))

-- "Key (3): empty AGAIN; longer than size INVAL; else written at pa, x1 its length." (CM7.13, CM7.14, CM7.17)
unfoldable pub public_code : ℕ → List ℕ → Code
public_code size key = fails (eqb (length key) 0) Again (fails (ltb size (length key)) Inval Ok)

-- the public key, written into the buffer b
unfoldable pub public_of : List ℕ → Lists → List ℕ → SigningStep
public_of b q key = queued (public_code (length b) key) (record { answer = answer_of Ok (length key) 0; page = splice 0 key b; queue = q }) b q

-- ---- an opcode's own checks, and what it does if they pass, in the buffer b. The shared checks refuse any other opcode.
unfoldable pub op_of : Opcode → List ℕ → Lists → List ℕ → SigningStep
op_of Push b q key = push_of b q
op_of Pull b q key = pull_of b q
op_of Key b q key = public_of b q key
op_of Other b q key = record { answer = answer_of Inval 0 0; page = b; queue = q }

-- the result s in a buffer, with the buffer put back at its offset of the page
unfoldable pub put_back : ℕ → List ℕ → SigningStep → SigningStep
put_back at page s = record { answer = s.answer; page = splice at s.page page; queue = s.queue }

-- an opcode on the buffer of `size` bytes at offset `at` of the page
unfoldable pub op_at : Opcode → ℕ → ℕ → List ℕ → Lists → List ℕ → SigningStep
op_at o at size page q key = put_back at page (op_of o (part at size page) q key)

-- ---- the command: the shared checks, then the opcode on its buffer
unfoldable pub signing_of : (state : Record) (page : List ℕ) (queue : Lists) (key : List ℕ) (opcode pa size curve : ℕ) → SigningStep
signing_of r page q key op pa size curve =
    queued (shared_code r (length page) (opcode_of op) pa size curve) (op_at (opcode_of op) (place_of (boot_params r) pa) size page q key) page q
