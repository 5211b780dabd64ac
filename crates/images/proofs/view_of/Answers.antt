use Rattle.images.specs.Image.{view_of}
use Rattle.images.proofs.view_of.Goals as goal

pub returns : goal.returns
unfolding view_of
returns c =
    rw (
      c.section_in.ensures,
      c.section_in-2.ensures,
      c.section_in-3.ensures,
      c.section_in-4.ensures,
    )
