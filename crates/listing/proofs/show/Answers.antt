use mathlib.Core.Path.{sym, ap, ◌∙◌}
use lib.ListN.{length}
use lib.Seq.{length-take-le}
use Rattle.text_lines.specs.Text.{printed}
use Rattle.text_lines.proofs.Lay.{listed-whole}
use Rattle.text_lines.proofs.Parts.{input-start}
use borrow.Author.Rules.{rules}
use Rattle.listing.proofs.show.Goals as goal

pub returns : goal.returns
returns c =
    let a = c.args in
    let l = c.list_input in record { prefix_len = (search rules, sym (length-take-le _ _ (search rules))); prints_all = λ input e. listed-whole (search rules) l.ensures ∙ ap printed e ∙ input-start (length a.room.now) input (search rules) }
