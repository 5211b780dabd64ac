-- The token call reads no byte of the page: for two pages of the same length its answer and the next session are the same. Assumes nothing.
use Prim.Native.Nat.{ℕ}
use mathlib.Core.Path.{◌≡◌, refl}
use mathlib.Core.Bool.{Bool, true, false, cond}
use mathlib.Core.List.{List}
use lib.ListN.{length}
use Rattle.boot.specs.declared.Record.{Record}
use Rattle.buffer_check.specs.Range.{place_of}
use Rattle.codes.specs.Codes.{boot_params, is_ok}
use Rattle.token_rules.specs.declared.Session.{Session}
use Rattle.token_rules.specs.Token.{TokenStep, token_code, begin_of, send_of, keeps, settled, token_of}

-- equal except for the page
abbrev pub SameToken : TokenStep → TokenStep → Type 0
SameToken x y = (x.answer ≡ y.answer) × (x.session ≡ y.session)

pub token-unread : (r : Record) (p q : List ℕ) (s : Session) (busy : Bool) (token : List ℕ) (pa size c : ℕ) → length p ≡ length q →
    SameToken (token_of r p s busy token pa size c) (token_of r q s busy token pa size c)
unfolding token_of token_code settled keeps send_of
token-unread r p q s busy token pa size c e = rw e (go (is_ok (token_code r q s busy token pa size c)))
  where
    go : (b : Bool) → SameToken
        (cond b (send_of (place_of (boot_params r) pa) token (begin_of s c) size p) (keeps (token_code r q s busy token pa size c) p s))
        (cond b (send_of (place_of (boot_params r) pa) token (begin_of s c) size q) (keeps (token_code r q s busy token pa size c) q s))
    go true = (refl, refl)
    go false = (refl, refl)
