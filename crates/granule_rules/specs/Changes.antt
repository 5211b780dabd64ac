-- Definitions for the theorems over calls. Assumes nothing.
use Rattle.std.specs.Prelude.{ℕ, ◌≡◌, length, get_or, Some}
use Rattle.granule_rules.specs.Granules.{GranuleTable}
use Rattle.banks.specs.Banks.{granule_at}
use Rattle.banks.specs.Banks.{Granules}
use Rattle.granule_rules.specs.declared.Direction.{Direction}

-- an accepted call on a granule: its direction and its address
pub record Change : Type 0 where
  pub way : Direction
  pub address : ℕ

-- the change with this direction and address
abbrev pub change : Direction → ℕ → Change
change d addr = record { way = d; address = addr }

-- an address is Realm: it falls on a granule of the table, whose byte is 1 (BN2, BN6)
pub record RealmAt (g : Granules) (addr : ℕ) (t : GranuleTable) : Type 0 where
  pub granule : ℕ
  pub own : granule_at g (length t.bytes) addr ≡ Some granule
  pub realm : get_or t.bytes granule 0 ≡ 1
