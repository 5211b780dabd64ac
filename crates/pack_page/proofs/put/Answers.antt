use mathlib.Core.Path.{refl}
use Rattle.words.proofs.Store.{laid-front}
use borrow.Author.Rules.{rules}
use Rattle.pack_page.proofs.put.Goals as goal

pub returns : goal.returns
returns c =
    let a = c.args in
    (refl, rw c.copy.ensures (laid-front a.text.now a.out.now (search rules)))
