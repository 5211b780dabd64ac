use mathlib.Core.Path.{ap, ◌∙◌}
use Rattle.reader.specs.declared.View.{View}
use Rattle.field_lookup.specs.Steps.{nth_place}
use Rattle.field_lookup.proofs.Fields.{nth-place}
use Rattle.images.specs.Image.{field_words}
use Rattle.potterbeam.proofs.pbeam_field.Goals as goal

pub returns : goal.returns
returns c =
    let a = c.args in record {
      field_after = c.field_words.ensures ∙ ap field_words (c.field_of.ensures.value ∙
          ap (λ (v : View). nth_place a.index v a.page.now) c.view_of.ensures);
      page_value = nth-place a.index _ a.page.now;
    }
