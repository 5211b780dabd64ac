-- When a reader refuses a message and with which reason, and what it returns otherwise, as plain facts about the message's own bytes
-- (SB4, SB5). Request E13: "Refusals, in order, when reading: message cut short or too long; wrong code; length above the largest;
-- tpm_result not zero". Assumes nothing.
use Rattle.std.specs.Prelude.{ℕ, ◌+◌, ◌*◌, ◌≤◌, ◌<◌, ◌≡◌, List, length, get_or, drop, Result, Ok, Err}
use Rattle.state_messages.specs.Messages.{Got}
use Rattle.state_messages.specs.declared.StateRequest.{StateRequest}
use Rattle.state_messages.specs.declared.Piece.{Piece}
use Rattle.state_messages.specs.declared.StateRefusal.{StateRefusal}
use Rattle.state_messages.specs.declared.StateRefusal.TheVariants as refusal

-- "4-byte big-endian" (SB1): the number in the four bytes of `m` from `at` on
abbrev pub big_number : ℕ → List ℕ → ℕ
big_number at m = get_or m at 0 * 0x1000000 + get_or m (at + 1) 0 * 0x10000 + get_or m (at + 2) 0 * 0x100 + get_or m (at + 3) 0

-- `r` is what reading the request `m` with the expected `code` gives. "command code, state_flags, type and offset" (SB2): 16 bytes.
pub record RequestGives (code : ℕ) (m : List ℕ) (r : Result StateRequest StateRefusal) : Type 0 where
  pub cut_short : length m < 16 → r ≡ Err refusal.CutShort
  pub too_long : 16 < length m → r ≡ Err refusal.TooLong
  pub wrong-code : length m ≡ 16 → (big_number 0 m ≡ code → ⊥) → r ≡ Err refusal.WrongCode
  pub accepts : length m ≡ 16 → big_number 0 m ≡ code →
      r ≡ Ok (record { code = code; flags = big_number 4 m; kind = big_number 8 m; offset = big_number 12 m })

-- `r` is what reading the response `m` gives, with data of at most `largest` bytes: `no` of a reason, or `yes`. "tpm_result, state_flags,
-- totlength, length and that many bytes of data" (SB2): 16 bytes, then as many as the fourth number says.
pub record ResponseGives {A : Type 0} (largest : ℕ) (m : List ℕ) (no : StateRefusal → A) (yes r : A) : Type 0 where
  pub no-head : length m < 16 → r ≡ no refusal.CutShort
  pub cut_short : 16 ≤ length m → length m < 16 + big_number 12 m → r ≡ no refusal.CutShort
  pub too_long : 16 + big_number 12 m < length m → r ≡ no refusal.TooLong
  pub above-largest : length m ≡ 16 + big_number 12 m → largest < big_number 12 m → r ≡ no refusal.AboveLargest
  pub failed : length m ≡ 16 + big_number 12 m → big_number 12 m ≤ largest → (big_number 0 m ≡ 0 → ⊥) → r ≡ no refusal.Failed
  pub accepts : length m ≡ 16 + big_number 12 m → big_number 12 m ≤ largest → big_number 0 m ≡ 0 → r ≡ yes

-- the response itself: its numbers, and all bytes after the first 16
abbrev pub GotGives : ℕ → List ℕ → Got → Type 0
GotGives largest m =
    ResponseGives largest m Err (Ok (record { result = 0; flags = big_number 4 m; total = big_number 8 m; bytes = drop 16 m }))

-- what the code returns: the numbers, and where the data is in the message
abbrev pub PieceGives : ℕ → List ℕ → Result Piece StateRefusal → Type 0
PieceGives largest m =
    ResponseGives largest m Err
    (Ok (record { flags = big_number 4 m; total = big_number 8 m; at = 16; len = big_number 12 m }))
