use Rattle.reader.specs.Reading.{view_at}
use Rattle.reader.proofs.view_at.Goals as goal

pub returns : goal.returns
unfolding view_at
returns c =
    rw (
      c.word_at.ensures,
      c.section_at.ensures,
      c.section_at-2.ensures,
      c.section_at-3.ensures,
      c.section_at-4.ensures,
    )
