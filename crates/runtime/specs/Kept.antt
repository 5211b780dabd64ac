-- Request E5: "no sequence of runtime commands with that record then changes a kept byte" (KB3). Assumes nothing.
use Rattle.std.specs.Prelude.{ℕ, ◌≡◌, false, ◌⊎◌, List, [], ◌∷◌, length, take}
use Rattle.boot.specs.declared.Record.{Record}
use Rattle.codes.specs.Codes.{is_up}
use Rattle.runtime.specs.Step.{Command, call, sign, list}

-- the first n bytes of the page and its length are unchanged (KB3)
pub record KeptTo (n : ℕ) (page after : List ℕ) : Type 0 where
  pub bytes : take n after ≡ take n page
  pub whole : length after ≡ length page

-- a command "with that record" (KB3): a call with boot record r, or with one that is not up. Lists and the signer's step do not write the
-- page.
unfoldable pub HasRecord : Record → Command → Type 0
HasRecord r (call c) = (c.state ≡ r) ⊎ (is_up c.state ≡ false)
HasRecord r (sign s) = Unit {0}
HasRecord r (list b d l) = Unit {0}

-- every command of a sequence does
unfoldable pub AllHave : Record → List Command → Type 0
AllHave r [] = Unit {0}
AllHave r (c ∷ cs) = HasRecord r c × AllHave r cs
