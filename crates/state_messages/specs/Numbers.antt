-- The numbers of the refusals, for C (SB4). Assumes nothing.
use Rattle.std.specs.Prelude.{ℕ}
use Rattle.state_messages.specs.declared.StateRefusal.{StateRefusal}
use Rattle.state_messages.specs.declared.StateRefusal.TheVariants as refusal

-- the number of a refusal; 0 is the answer of an accepted call (SB4)
abbrev pub state_refusal_number : StateRefusal → ℕ
state_refusal_number refusal.CutShort = 1
state_refusal_number refusal.TooLong = 2
state_refusal_number refusal.WrongCode = 3
state_refusal_number refusal.AboveLargest = 4
state_refusal_number refusal.Failed = 5
state_refusal_number refusal.NoRoom = 6
state_refusal_number refusal.TotalDiffers = 7
state_refusal_number refusal.PastTotal = 8
state_refusal_number refusal.PastBuffer = 9
state_refusal_number refusal.NoData = 10
