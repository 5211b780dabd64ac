-- When the realm key call is OK, and what it then does. Assumes nothing.
use Prim.Native.Nat.{ℕ, ◌≤◌}
use mathlib.Core.Path.{◌≡◌, refl, ◌∙◌}
use mathlib.Core.Bool.{true}
use mathlib.Core.List.{List}
use native.Mathlib.Omega.{arith}
use lib.ListN.{length}
use borrow.Author.Tests.{ltb-false, eqb-true, eqb-false}
use Rattle.boot.specs.declared.Params.{Params}
use Rattle.boot.specs.declared.Record.{Record}
use Rattle.boot.specs.declared.Record.TheVariants.{Up}
use Rattle.buffer_check.specs.Range.{place_of}
use Rattle.buffer_check.specs.Buffers.{BufferIn}
use Rattle.buffer_check.specs.declared.OutsideAs.TheVariants.{BadAddress}
use Rattle.buffer_check.proofs.Ranges.{passed}
use Rattle.buffer_check.proofs.Buffers.{in-passes, passed-in, splice-written}
use Rattle.codes.specs.Codes.{is_up, boot_params, extended, x0_of, answer_of}
use Rattle.codes.specs.declared.Code.TheVariants.{Ok}
use Rattle.codes.proofs.Gates.{unless-ok, either-ok, first-ok, then_ok, then-go}
use Rattle.attest.specs.Acts.{KeyActed}
use Rattle.attest.specs.Key.{key_rest, key_code, keyed, realm_key_of}
use Rattle.attest.proofs.Keys.{rest_ok}

-- "Writes the key at pa; x1 is its length."
pub key-acts : (r : Record) (page key : List ℕ) (pa size curve : ℕ) → (realm_key_of r page key pa size curve).answer.code ≡ Ok →
    KeyActed (place_of (boot_params r) pa) key page (realm_key_of r page key pa size curve).page (realm_key_of r page key pa size curve).answer
unfolding realm_key_of keyed key_code answer_of x0_of extended
key-acts r page key pa size curve h =
    let p = passed _ _ _ _ _ _ (first-ok _ _ h) in
    let at : ℕ = place_of (boot_params r) pa in
    let l : at ≤ length page = omega (arith, p.whole, p.room) in
    rw h (record { told = refl; written = splice-written at key page l })

-- A call is refused only if CM4.1 to CM4.5 refuse it: with the record up, a page of 4,096 bytes, a buffer within it, curve 0 and a key that
-- is neither empty nor longer than the buffer, the answer is OK.
pub key-passes : (u : Params) (page key : List ℕ) (pa size curve : ℕ) → BufferIn u page pa size → curve ≡ 0 → (length key ≡ 0 → ⊥) →
    length key ≤ size →
    (realm_key_of (Up u) page key pa size curve).answer.code ≡ Ok
unfolding realm_key_of keyed key_code answer_of
key-passes u page key pa size curve i z k l = then-go _ _ (in-passes u page pa size i Ok BadAddress refl) ∙ rest_ok size curve key z k l

-- and only then
pub key-only : (r : Record) (page key : List ℕ) (pa size curve : ℕ) → (realm_key_of r page key pa size curve).answer.code ≡ Ok →
    (is_up r ≡ true) × BufferIn (boot_params r) page pa size × (curve ≡ 0) × (1 ≤ length key) × (length key ≤ size)
unfolding realm_key_of keyed key_code key_rest answer_of
key-only r page key pa size curve h =
    let p = passed _ _ _ _ _ _ (first-ok _ _ h) in
    let c = unless-ok _ _ _ refl (then_ok _ _ h) in
    let k = either-ok _ _ _ _ refl c.1 in
    (p.up, passed-in r page Ok pa size p, eqb-true _ _ c.0, omega (arith, eqb-false (length key) 0 k.0), ltb-false _ _ k.1)
