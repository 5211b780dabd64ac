-- When the collector gives each of its refusals, in the order of SB4, as plain facts: n new bytes of a blob of `total` bytes, and a buffer
-- of `room` bytes. Assumes nothing.
use Rattle.std.specs.Prelude.{ℕ, ◌+◌, ◌≤◌, ◌<◌, ◌≡◌, Some, Result, Ok, Err}
use Rattle.state_messages.specs.declared.StateRefusal.{StateRefusal}
use Rattle.state_messages.specs.declared.StateRefusal.TheVariants as refusal
use Rattle.state_blobs.specs.declared.Collector.{Collector}

-- not "totlength differs from the first" (SB4)
abbrev pub SameTotal : Collector → ℕ → Type 0
SameTotal c total = (t : ℕ) → c.total ≡ Some t → t ≡ total

pub record CollectorGives (c : Collector) (total n room : ℕ) (v : Result (Unit {0}) StateRefusal) : Type 0 where
  -- "totlength differs from the first; held and new bytes past totlength; past the buffer; no data while bytes are missing" (SB4), of a new
  -- collector too
  pub differs : (SameTotal c total → ⊥) → v ≡ Err refusal.TotalDiffers
  pub past-total : SameTotal c total → total < c.held + n → v ≡ Err refusal.PastTotal
  pub past-buffer : SameTotal c total → c.held + n ≤ total → room < c.held + n → v ≡ Err refusal.PastBuffer
  pub no-data : SameTotal c total → c.held + n ≤ total → c.held + n ≤ room → n ≡ 0 → c.held < total → v ≡ Err refusal.NoData
  pub accepts : SameTotal c total → c.held + n ≤ total → c.held + n ≤ room → (n ≡ 0 → total ≤ c.held) → v ≡ Ok tt
