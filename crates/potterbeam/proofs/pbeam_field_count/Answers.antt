use mathlib.Core.Path.{ap, ◌∙◌}
use lib.ListN.{length}
use Rattle.reader.specs.Answer.{fields_shown}
use Rattle.reader.specs.Reading.{reading_answer}
use Rattle.reader.specs.declared.View.{View}
use Rattle.std.specs.Prelude.{Ok}
use Rattle.potterbeam.proofs.pbeam_field_count.Goals as goal

pub returns : goal.returns
returns c =
    let a = c.args in
    c.field_count.ensures ∙ ap (λ (v : View). length (fields_shown (reading_answer a.page.now (Ok v))))
    c.view_of.ensures
