-- Runtime codes. "Runtime codes: OK 0, UNK -1, BAD_ADDR -2, BAD_PAS -3, INVAL -5, AGAIN -6; 002's NOMEM (-4) is not used. x0
-- holds the code sign-extended to 64 bits; unused result registers are 0." (RT1, RT2) Assumes nothing.
use Rattle.std.specs.Prelude.{ℕ, suc, ◌-◌, ◌^◌, Bool, true, false, cond, ℤ, pos, negsuc, Result, Err, Ok as Go}
pub use Rattle.reader.specs.Answer.{minus}
use Rattle.boot.specs.declared.Params.{Params}
use Rattle.boot.specs.declared.Record.{Record}
use Rattle.boot.specs.declared.Record.TheVariants.{Fresh, Up, Closed}
use Rattle.codes.specs.declared.Code.{Code}
use Rattle.codes.specs.declared.Code.TheVariants.{Ok, Unk, BadAddr, BadPas, Inval, Again}
use Rattle.codes.specs.declared.Answer.{Answer}

-- the number of each code (RT1)
abbrev pub number_of : Code → ℤ
number_of Ok = pos 0
number_of Unk = minus 1
number_of BadAddr = minus 2
number_of BadPas = minus 3
number_of Inval = minus 5
number_of Again = minus 6

-- a number sign-extended to 64 bits
unfoldable pub extended : ℤ → ℕ
extended (pos n) = n
extended (negsuc n) = 2 ^ 64 - suc n

-- the code as x0 holds it (RT2)
unfoldable pub x0_of : Code → ℕ
x0_of c = extended (number_of c)

-- the answer with code c, x1 and x2
unfoldable pub answer_of : Code → ℕ → ℕ → Answer
answer_of c x1 x2 = record { code = c; x0 = x0_of c; x1 = x1; x2 = x2 }

-- whether the code is OK
abbrev pub is_ok : Code → Bool
is_ok Ok = true
is_ok Unk = false
is_ok BadAddr = false
is_ok BadPas = false
is_ok Inval = false
is_ok Again = false

-- the test does not hold
unfoldable pub is_false : Bool → Bool
is_false true = false
is_false false = true

-- one check: the code c if the test holds, otherwise the code of the next checks. A command's checks read downwards in the order of
-- docs/RULES.md (GE2).
unfoldable pub fails : Bool → Code → Code → Code
fails true c next = c
fails false c next = next

-- whether the boot record is up
unfoldable pub is_up : Record → Bool
is_up Fresh = false
is_up (Up u) = true
is_up Closed = false

-- "B and the agreed minor come from the boot record" (RT4), and with request E5 the number of kept bytes
unfoldable pub boot_params : Record → Params
boot_params Fresh = record { cpus = 0; base = 0; minor = 0; kept = 0 }
boot_params (Up u) = u
boot_params Closed = record { cpus = 0; base = 0; minor = 0; kept = 0 }

-- "while it is not up, every command but 0xC400018F answers UNK before its own checks" (RT6)
unfoldable pub when_up : Record → Code → Code
when_up s k = fails (is_false (is_up s)) Unk k

-- the new value if the code is OK, otherwise the old value: what a refused call leaves (GE4)
abbrev pub if_ok : {A : Type 0} → Code → A → A → A
if_ok k new old = cond (is_ok k) new old

-- the code of two rows of checks: the first if it fails, otherwise the second
unfoldable pub and_then : Code → Code → Code
and_then k next = if_ok k next k

-- the result of checks with code k: x if k is OK, otherwise the error k. Code has an `Ok` of its own: the result's is `Go` here.
unfoldable pub gated : {A : Type 0} → Code → A → Result A Code
gated k x = cond (is_ok k) (Go x) (Err k)

-- the number of the code that checks refuse with; OK's 0 if all pass
abbrev pub gate_number : {A : Type 0} → Result A Code → ℤ
gate_number (Err k) = number_of k
gate_number (Go x) = pos 0
