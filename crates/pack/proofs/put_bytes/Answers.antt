use Rattle.std.proofs.Common.{refl, ◌∙◌, arith, rules}
use Rattle.words.proofs.Store.{lent_back, bytes-in}
use Rattle.pack.proofs.put_bytes.Goals as goal

pub returns-then-target-at : goal.returns-then-target-at
returns-then-target-at c = absurd (let z : ⊥ = omega arith in z)

pub returns : goal.returns
returns c =
    let a = c.args in (
      refl,
      rw c.copy_by_words.ensures (lent_back a.at a.bytes.now a.target.now (search rules) ∙
          bytes-in a.at a.bytes.now a.target.now (search rules)),
    )
