-- When calls on the platform token are accepted, and what the lookup of a challenge shows (CM5). Assumes nothing.
use Rattle.std.specs.Prelude.{ℕ, ◌-◌, ◌≤◌, ◌≡◌, Bool, true, false, List, ◌⊎◌, length}
use Rattle.words.specs.Word.{part}
use Rattle.words.specs.declared.Span.{Span}
use Rattle.boot.specs.declared.Params.{Params}
use Rattle.boot.specs.declared.Record.{Record}
use Rattle.buffer_check.specs.Buffers.{BufferIn}
use Rattle.codes.specs.Codes.{is_up, boot_params}
use Rattle.codes.specs.declared.Code.{Code}
use Rattle.codes.specs.declared.Code.TheVariants.{Ok}
use Rattle.token_rules.specs.declared.Session.{Session}
use Rattle.token_rules.specs.declared.Session.TheVariants.{Idle}
use Rattle.token_rules.specs.Token.{whole_of}
use Rattle.token_rules.specs.Calls.{TokenCall}

-- the sizes of a challenge, by "c_size not 0, 32, 48 or 64 INVAL" (CM5.5)
abbrev pub ChallengeSize : ℕ → Type 0
ChallengeSize c = (c ≡ 32) ⊎ ((c ≡ 48) ⊎ (c ≡ 64))

-- The record is up, the platform is not busy, the buffer is in the page, c_size is 0, 32, 48 or 64 and at most the buffer's size
pub record BufferPassed (r : Record) (page : List ℕ) (busy : Bool) (pa size c : ℕ) : Type 0 where
  pub up : is_up r ≡ true
  pub free : busy ≡ false
  pub buffer : BufferIn (boot_params r) page pa size
  pub listed : (c ≡ 0) ⊎ ChallengeSize c
  pub holds : c ≤ size

-- The buffer passes and the token is not empty; with c_size 0 there is a session, whose token had this length
pub record TokenPassed (s : Session) (x : TokenCall) : Type 0 where
  pub passed : BufferPassed x.state x.page x.busy x.pa x.size x.csize
  pub token : 1 ≤ length x.token
  pub begun : x.csize ≡ 0 → (s ≡ Idle → ⊥) × (length x.token ≡ whole_of s)

-- "the challenge, c_size bytes at pa, as that part of the page" (CM5.16): its bytes, its place, and the code OK
pub record ChallengeActed (u : Params) (page : List ℕ) (pa c : ℕ) (bytes : List ℕ) (place : Span) (code : Code) : Type 0 where
  pub there : bytes ≡ part (pa - u.base) c page
  pub whole : length bytes ≡ c
  pub named : place ≡ record { at = pa - u.base; len = c }
  pub passes : code ≡ Ok
