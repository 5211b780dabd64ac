use mathlib.Core.Path.{sym, ap, ◌∙◌}
use lib.ListN.{length}
use lib.Seq.{length-take-le}
use Rattle.pack_page.specs.Prints.{pack_printed}
use Rattle.pack_page.proofs.Inputs.{input-start}
use borrow.Author.Rules.{rules}
use Rattle.pack_page.proofs.show.Goals as goal

pub returns : goal.returns
returns c =
    let a = c.args in
    let l = c.pack_input in record { prefix_len = (search rules, sym (length-take-le _ _ (search rules))); packs_all = λ input e. l.ensures.1 ∙ ap pack_printed e ∙ input-start (length a.room.now) input (search rules) }
