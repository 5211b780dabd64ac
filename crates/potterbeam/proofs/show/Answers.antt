use Rattle.reader.specs.Reading.{view_at}
use Rattle.export_rules.proofs.Shown.{view-laid}
use borrow.Author.Rules.{rules}
use Rattle.potterbeam.proofs.show.Goals as goal

pub show_section-requires : goal.show_section-requires
show_section-requires c = (search rules, search rules, c.requires.1 0)

pub show_section-requires-2 : goal.show_section-requires-2
show_section-requires-2 c = (
  search rules,
  search rules,
  c.requires.1
      1,
)

pub show_section-requires-3 : goal.show_section-requires-3
show_section-requires-3 c =
    (search rules, search rules, c.requires.1 2)

pub show_section-requires-4 : goal.show_section-requires-4
show_section-requires-4 c =
    (search rules, search rules, c.requires.1 3)

pub returns : goal.returns
unfolding view_at
returns c =
    let a = c.args in
    view-laid (view_at a.minor a.e.minor a.base a.core.now) a.view.now c.requires.0 _ _ _ _ _
    (rw c.word_at.ensures at c.put_three.ensures)
    c.show_section.ensures
    c.show_section-2.ensures
    c.show_section-3.ensures
    c.show_section-4.ensures
