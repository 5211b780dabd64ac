-- Any sequence of boots. Assumes nothing.
use Rattle.std.specs.Prelude.{ℕ, List, [], ◌∷◌}
use Rattle.boot.specs.Boot.{cold_next, warm_next}
use Rattle.boot.specs.declared.Record.{Record}

-- a boot: cold with its registers, the monitor's maximum, K and the page; warm with its registers
pub data Boot : Type 0 where
  cold : (x0 x1 x2 x3 maxcpus kept : ℕ) (page : List ℕ) → Boot
  warm : (x0 x1 x2 x3 : ℕ) → Boot

-- the record after one boot
unfoldable pub booted : Record → Boot → Record
booted s (cold x0 x1 x2 x3 most kept page) = cold_next s x0 x1 x2 x3 most kept page
booted s (warm x0 x1 x2 x3) = warm_next s x0

-- the record after a sequence of boots
unfoldable pub all_booted : Record → List Boot → Record
all_booted s [] = s
all_booted s (b ∷ bs) = all_booted (booted s b) bs
