use Prim.Native.Nat.{◌+◌, ◌-◌}
use mathlib.Core.Path.{◌≡◌, ◌∙◌}
use native.Mathlib.Omega.{arith}
use lib.ListN.{take, drop}
use Rattle.realm_words.specs.Bits.{packed}
use Rattle.realm_words.proofs.Packing.{octet-lt}
use Rattle.realm_words.proofs.octet.Goals as goal

pub returns : goal.returns
returns c =
    let a = c.args in
    let n : a.index + 8 - a.index ≡ 8 = omega arith in
    let e : c.packed_of.result ≡ packed (take 8 (drop a.index a.table.now)) = c.packed_of.ensures ∙ rw n in
    (e, rw e (octet-lt a.index a.table.now (omega arith)))
