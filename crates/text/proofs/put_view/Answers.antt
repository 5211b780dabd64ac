use mathlib.Core.Path.{ap}
use Rattle.text_lines.specs.Text.{fields_text}
use Rattle.text_lines.proofs.Lay.{wrote_then, wrote-same}
use Rattle.text_lines.proofs.Parts.{seen-listed}
use borrow.Author.Rules.{rules}
use Rattle.text.proofs.put_view.Goals as goal

pub returns : goal.returns
returns c =
    let a = c.args in
    wrote-same (seen-listed a.view a.page.now)
    (wrote_then (search rules)
    (wrote_then (search rules)
    (wrote_then (search rules) c.put_head.ensures
    c.put_plat.ensures)
    (wrote-same (ap fields_text c.fields_start-start.ensures.page_value) c.put_fields.ensures))
    c.put_sections.ensures)
