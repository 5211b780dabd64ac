-- Calls of 0xC40001B3, one after another. "With a fixed buffer of b bytes, b at least the start's c_size, one start and the same token
-- lent throughout, a token of L bytes takes exactly L / b calls, rounded up, refusals not counted" (CM5.13). Assumes nothing.
use Rattle.std.specs.Prelude.{ℕ, ◌+◌, ◌-◌, ◌*◌, ◌/◌, min, ◌≤◌, ◌<◌, ◌≡◌, Bool, true, cond, List, [], ◌∷◌, ◌++◌, length, take, drop}
use Rattle.words.specs.Word.{part}
use Rattle.boot.specs.declared.Record.{Record}
use Rattle.buffer_check.specs.Range.{place_of}
use Rattle.codes.specs.Codes.{boot_params, is_ok}
use Rattle.codes.specs.declared.Code.TheVariants.{Ok}
use Rattle.token_rules.specs.declared.Session.{Session}
use Rattle.token_rules.specs.declared.Session.TheVariants.{Idle, Sending}
use Rattle.token_rules.specs.Token.{buffer_code, TokenStep, token_of}

-- ---- one call
-- the inputs of a call except the session. Each call has its own page, because other commands may have changed it since the call before
pub record TokenCall : Type 0 where
  pub state : Record
  pub page : List ℕ
  pub busy : Bool
  pub token : List ℕ
  pub pa : ℕ
  pub size : ℕ
  pub csize : ℕ

-- the result of the call x in session s
unfoldable pub token_step_of : Session → TokenCall → TokenStep
token_step_of s x = token_of x.state x.page s x.busy x.token x.pa x.size x.csize

-- whether the call answers OK
unfoldable pub token_accepted : Session → TokenCall → Bool
token_accepted s x = is_ok (token_step_of s x).answer.code

-- the x1 bytes of the page at pa after an OK; no bytes after a refusal
unfoldable pub shown_of : Session → TokenCall → List ℕ
shown_of s x =
    cond (token_accepted s x) (part (place_of (boot_params x.state) x.pa) (token_step_of s x).answer.x1 (token_step_of s x).page) []

-- the checks that look at neither session nor token pass
unfoldable pub Ready : TokenCall → Type 0
Ready x = buffer_code x.state (length x.page) x.busy x.pa x.size x.csize ≡ Ok

-- ---- calls one after another
-- the session after them
unfoldable pub session_after : Session → List TokenCall → Session
session_after s [] = s
session_after s (x ∷ xs) = session_after (token_step_of s x).session xs

-- "refusals not counted" (CM5.13): the number of calls that are OK
unfoldable pub oks_of : Session → List TokenCall → ℕ
oks_of s [] = 0
oks_of s (x ∷ xs) = cond (token_accepted s x) 1 0 + oks_of (token_step_of s x).session xs

-- the hunks, joined in order
unfoldable pub hunks_of : Session → List TokenCall → List ℕ
hunks_of s [] = []
hunks_of s (x ∷ xs) = shown_of s x ++ hunks_of (token_step_of s x).session xs

-- x2 of the last call that is OK; r if no call is
unfoldable pub left_of : ℕ → Session → List TokenCall → ℕ
left_of r s [] = r
left_of r s (x ∷ xs) = left_of (cond (token_accepted s x) (token_step_of s x).answer.x2 r) (token_step_of s x).session xs

-- "With a fixed buffer of b bytes, .. one start and the same token lent throughout" (CM5.13): each call that is OK has c_size 0, this
-- buffer size and this token. A refused call may be any call.
abbrev pub GoesOn : List ℕ → ℕ → Session → List TokenCall → Type 0
GoesOn token b s [] = Unit {0}
GoesOn token b s (x ∷ xs) =
    (token_accepted s x ≡ true → (x.csize ≡ 0) × (x.size ≡ b) × (x.token ≡ token)) × GoesOn token b (token_step_of s x).session xs

-- ---- what the calls deliver together
-- "L / b calls, rounded up" (CM5.13): ceil(l / b)
unfoldable pub ceil : ℕ → ℕ → ℕ
ceil l b = (l + (b - 1)) / b

-- n calls are OK, their hunks joined are `bytes`, x2 of the last OK is `left`, and the session after all is s. If it has ended, n
-- is ceil(L / b) and the hunks are the token; otherwise n is less, and the hunks are the token's first n * b bytes.
pub record Calls (token : List ℕ) (b n : ℕ) (bytes : List ℕ) (left : ℕ) (s : Session) : Type 0 where
  pub ended : s ≡ Idle → (n ≡ ceil (length token) b) × (bytes ≡ token) × (left ≡ 0)
  pub before : (s ≡ Idle → ⊥) → (n < ceil (length token) b) × (bytes ≡ take (n * b) token) × (left ≡ length token - n * b)

-- ---- what one call makes, with a buffer of any size
-- "Each OK writes the next hunk, the smaller of buffer and rest, at pa; x1 is the hunk, x2 the rest. At rest 0 the session ends. Size 0
-- with c_size 0 moves nothing." (CM5.10 to CM5.12): for a call that starts after `sent` bytes of the token: its answer, the session after
-- it, and the bytes that are then at pa
pub record NextHunk (token : List ℕ) (size sent : ℕ) (t : TokenStep) (bytes : List ℕ) : Type 0 where
  pub hunk : bytes ≡ take size (drop sent token)
  pub told : t.answer ≡ record { code = Ok; x0 = 0; x1 = min size (length token - sent); x2 = length token - (sent + size) }
  pub ended : length token ≤ sent + size → t.session ≡ Idle
  pub goes_on : sent + size < length token → t.session ≡ Sending (length token) (sent + size)
