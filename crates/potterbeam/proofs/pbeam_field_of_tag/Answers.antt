use mathlib.Core.Path.{ap, ◌∙◌}
use Rattle.reader.specs.declared.View.{View}
use Rattle.field_lookup.specs.Steps.{tag_place}
use Rattle.field_lookup.proofs.Fields.{tag-place}
use Rattle.images.specs.Image.{field_words}
use Rattle.potterbeam.proofs.pbeam_field_of_tag.Goals as goal

pub returns : goal.returns
returns c =
    let a = c.args in record {
      field_after = c.field_words.ensures ∙ ap field_words (c.field_of_tag.ensures.value ∙
          ap (λ (v : View). tag_place a.tag v a.page.now) c.view_of.ensures);
      page_value = tag-place a.tag _ a.page.now;
    }
