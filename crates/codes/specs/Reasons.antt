-- When each runtime code is given, for the theorems: a table of conditions in the order of docs/RULES.md (`Gives`, of `boot`), each a plain
-- fact with its code. The first condition that holds gives the code; if none holds the code is OK. Assumes nothing.
use Rattle.std.specs.Prelude.{◌≡◌}
pub use Rattle.boot.specs.Reasons.{Gives}
use Rattle.boot.specs.declared.Params.{Params}
use Rattle.boot.specs.declared.Record.{Record}
use Rattle.boot.specs.declared.Record.TheVariants.{Fresh, Up, Closed}
use Rattle.codes.specs.declared.Code.{Code}
use Rattle.codes.specs.declared.Code.TheVariants.{Ok, Unk}

-- the end of a table: no condition holds, so the code is OK
abbrev pub Passes : Code → Type 0
Passes k = k ≡ Ok

-- "while it is not up, every command but 0xC400018F answers UNK before its own checks" (RT6): u is what a record that is up keeps
unfoldable pub WhileUp : Record → (Params → Code → Type 0) → Code → Type 0
WhileUp Fresh below k = k ≡ Unk
WhileUp (Up u) below k = below u k
WhileUp Closed below k = k ≡ Unk
