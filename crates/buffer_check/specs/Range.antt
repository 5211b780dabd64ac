-- The range check (RT8, RT9): the only place that compares a buffer with the page; and the checks that every command on the page starts
-- with. Assumes nothing.
use Rattle.std.specs.Prelude.{ℕ, ◌+◌, ◌-◌, Bool, cond, not, leb, ltb, eqb, ℤ}
use Rattle.words.specs.Tests.{either}
use Rattle.boot.specs.declared.Params.{Params}
use Rattle.boot.specs.declared.Record.{Record}
use Rattle.boot.specs.declared.Record.TheVariants.{Fresh, Up, Closed}
use Rattle.codes.specs.Codes.{minus, number_of, is_ok, is_false, fails, boot_params, when_up, and_then}
use Rattle.codes.specs.declared.Code.{Code}
use Rattle.codes.specs.declared.Code.TheVariants.{Ok, Unk, BadAddr, Inval}
use Rattle.buffer_check.specs.declared.OutsideAs.{OutsideAs}
use Rattle.buffer_check.specs.declared.OutsideAs.TheVariants.{BadAddress, Invalid}

-- "a buffer at pa of size s is outside when pa is below B or not below B + 4,096;" Request E5: "The range check counts a buffer that begins
-- below B + K as outside." (RT8, KB2)
unfoldable pub outside : Params → ℕ → Bool
outside u pa = either (ltb pa (u.base + u.kept)) (leb (u.base + 4096) pa)

-- "it is too long when s exceeds B + 4,096 - pa." (RT9)
unfoldable pub too_long : Params → ℕ → ℕ → Bool
too_long u pa size = ltb (u.base + 4096 - pa) size

-- the buffer's offset in the page
unfoldable pub place_of : Params → ℕ → ℕ
place_of u pa = pa - u.base

-- the code of a buffer outside. Realm key and platform token: "outside BAD_ADDR" (CM4.2, CM5.3); token signing: "outside .. INVAL" (CM7.3)
unfoldable pub outside_code : OutsideAs → Code
outside_code BadAddress = BadAddr
outside_code Invalid = Inval

-- the code of the range check: "too long INVAL" (CM4.3, CM5.4, CM7.4) for every command
unfoldable pub range_code : Params → OutsideAs → ℕ → ℕ → Code
range_code u out pa size = fails (outside u pa) (outside_code out) (fails (too_long u pa size) Inval Ok)

-- "while it is not up, every command but 0xC400018F answers UNK before its own checks; 0xC40001B2, B3 and B5 do so too on a lent page not
-- 4,096 bytes long (house rules)" (RT6, RT7). `first` is the code of what a command checks before its buffer: OK if it checks nothing.
unfoldable pub page_code : (state : Record) (len : ℕ) (first : Code) (out : OutsideAs) (pa size : ℕ) → Code
page_code r len first out pa size =
    when_up r
    (fails (is_false (eqb len 4096)) Unk
    (and_then first
    (range_code (boot_params r) out pa size)))

-- ---- the same checks by the numbers of RT1: UNK -1, BAD_ADDR -2, INVAL -5
-- the number of a buffer outside
abbrev pub outside_number : OutsideAs → ℤ
outside_number BadAddress = minus 2
outside_number Invalid = minus 5

-- the number of the first check that fails, in the order of docs/RULES.md; `rest` if none does
unfoldable pub page_number : Record → (len : ℕ) → (first : Code) → OutsideAs → (pa size : ℕ) → (rest : ℤ) → ℤ
page_number Fresh len first out pa size rest = minus 1
page_number Closed len first out pa size rest = minus 1
page_number (Up u) len first out pa size rest =
    cond (not (eqb len 4096)) (minus 1)
    (cond (not (is_ok first)) (number_of first)
    (cond (ltb pa (u.base + u.kept)) (outside_number out)
    (cond (leb (u.base + 4096) pa) (outside_number out)
    (cond (ltb (u.base + 4096 - pa) size) (minus 5)
    rest))))
