use mathlib.Core.Path.{ap, ◌∙◌}
use Rattle.lookup.specs.Fast.{count_of}
use Rattle.lookup.proofs.Lookups.{count-view}
use Rattle.images.specs.Image.{view_of}
use Rattle.potterbeam.proofs.pbeam_count.Goals as goal

pub returns : goal.returns
returns c =
    let a = c.args in
    c.count_in.ensures ∙ ap (λ s. count_of a.section s a.page.now) c.section_of.ensures ∙
    count-view a.page.now (view_of a.view.now) a.section
