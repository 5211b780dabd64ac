use Rattle.lookup.proofs.Lookups.{told-view}
use Rattle.lookup.proofs.word_of.Goals as goal

pub returns : goal.returns
returns c =
    let a = c.args in
    told-view a.page.now a.view a.k a.i a.j _ c.section_of.ensures _ c.word_in.ensures
