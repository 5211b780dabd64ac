-- When a warm boot succeeds. Assumes nothing.
use Rattle.std.specs.Prelude.{ℕ, ◌<◌, ◌≡◌}
use Rattle.boot.specs.declared.Params.{Params}
use Rattle.boot.specs.declared.Record.{Record}
use Rattle.boot.specs.declared.Record.TheVariants.{Up}

-- the record is up, and x0 is below the cold boot's x2 (BT4)
pub record WarmPassed (s : Record) (x0 : ℕ) : Type 0 where
  pub params : Params
  pub up : s ≡ Up params
  pub below : x0 < params.cpus
