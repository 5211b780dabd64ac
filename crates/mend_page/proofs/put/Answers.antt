use mathlib.Core.Path.{refl, ◌∙◌}
use Rattle.words.proofs.Store.{lent_back, bytes-in}
use borrow.Author.Rules.{rules}
use Rattle.mend_page.proofs.put.Goals as goal

pub returns : goal.returns
returns c =
    let a = c.args in (
      refl,
      rw c.copy.ensures (lent_back a.at a.text.now a.out.now (search rules)) ∙
          bytes-in a.at a.text.now a.out.now (search rules),
    )
