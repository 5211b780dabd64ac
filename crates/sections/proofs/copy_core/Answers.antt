use Rattle.words.specs.Word.{part}
use Rattle.words.proofs.Store.{lent_back}
use lib.ListN.{length, take, drop, length-drop}
use lib.Seq.{length-take-le}
use mathlib.Core.Path.{◌≡◌}
use Rattle.sections.proofs.Core.{core-copied}
use native.Mathlib.Omega.{arith}
use Rattle.sections.proofs.copy_core.Goals as goal

pub returns : goal.returns
unfolding part
returns c =
    let a = c.args in
    let p = c.requires in
    let l : length (take 104 (drop 8 a.page.now)) ≡ 104 = length-take-le 104 (drop 8 a.page.now)
    (omega (arith, length-drop 8 a.page.now)) in
    core-copied a.page.now a.core.now _ p.0 p.1
    (rw c.copy.ensures (lent_back 8 (take 104 (drop 8 a.page.now)) a.core.now (omega arith)))
