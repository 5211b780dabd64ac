use mathlib.Core.Path.{ap, ◌∙◌}
use Rattle.images.specs.Image.{console_number}
use Rattle.lookup.specs.Consoles.{console_named}
use Rattle.reader.specs.Reading.{reading_answer}
use Rattle.std.specs.Prelude.{Ok}
use Rattle.reader.specs.declared.View.{View}
use Rattle.potterbeam.proofs.pbeam_console_named.Goals as goal

pub returns : goal.returns
returns c =
    let a = c.args in
    c.console_number.ensures
    ∙ ap console_number (c.find_console.ensures ∙
    ap (λ (v : View). console_named (reading_answer a.page.now (Ok v)) a.name.now) c.view_of.ensures)
