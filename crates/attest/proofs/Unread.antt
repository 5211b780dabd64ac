-- The realm key call reads no byte of the page: for two pages of the same length its answer is the same. Assumes nothing.
use Prim.Native.Nat.{ℕ}
use mathlib.Core.Path.{◌≡◌}
use mathlib.Core.List.{List}
use lib.ListN.{length}
use Rattle.boot.specs.declared.Record.{Record}
use Rattle.attest.specs.Key.{key_code, keyed, realm_key_of}

pub key-unread : (r : Record) (p q key : List ℕ) (pa size curve : ℕ) → length p ≡ length q →
    (realm_key_of r p key pa size curve).answer ≡ (realm_key_of r q key pa size curve).answer
unfolding realm_key_of keyed key_code
key-unread r p q key pa size curve e = rw e
