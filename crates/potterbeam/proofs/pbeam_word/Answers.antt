use Rattle.lookup.proofs.Lookups.{told-view}
use Rattle.images.specs.Image.{view_of}
use Rattle.potterbeam.proofs.pbeam_word.Goals as goal

pub returns : goal.returns
unfolding view_of
returns c =
    let a = c.args in
    told-view a.page.now (view_of a.view.now) a.section a.entry a.word _ c.section_of-wanted.ensures _
    c.word_in.ensures
