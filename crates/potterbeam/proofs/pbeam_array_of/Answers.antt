use mathlib.Core.Path.{ap, ◌∙◌}
use lib.ListN.{length}
use Rattle.lookup.specs.Lookup.{span_of}
use Rattle.images.specs.Image.{span_words}
use Rattle.potterbeam.proofs.pbeam_array_of.Goals as goal

pub returns : goal.returns
returns c =
    let a = c.args in
    c.span_words.ensures ∙ ap span_words (c.place_in.ensures ∙
    ap (λ s. span_of a.section s (length a.page.now)) c.section_of-wanted.ensures)
