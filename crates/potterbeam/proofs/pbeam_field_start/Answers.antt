use mathlib.Core.Path.{ap, ◌∙◌}
use Rattle.reader.specs.Answer.{fields_shown}
use Rattle.reader.specs.Reading.{reading_answer}
use Rattle.reader.specs.declared.View.{View}
use Rattle.std.specs.Prelude.{Ok}
use Rattle.field_lookup.specs.Steps.{start_at}
use Rattle.potterbeam.proofs.pbeam_field_start.Goals as goal

pub returns : goal.returns
returns c =
    let a = c.args in
    let e = c.view_of.ensures in record { value = c.fields_start.ensures.value ∙ ap (λ (v : View). start_at v.plat a.page.now) e; page_value = c.fields_start.ensures.page_value ∙ ap (λ (v : View). fields_shown (reading_answer a.page.now (Ok v))) e }
