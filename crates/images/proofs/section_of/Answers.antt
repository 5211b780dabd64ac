use mathlib.Core.Path.{◌∙◌}
use native.Mathlib.Omega.{arith}
use Rattle.images.proofs.Told.{section-there, section-absent}
use Rattle.images.proofs.section_of.Goals as goal

pub returns-then-k-gt3 : goal.returns-then-k-gt3
returns-then-k-gt3 c = let a = c.args in section-absent a.k a.image.now (omega arith)

pub returns : goal.returns
returns c = let a = c.args in c.section_in.ensures ∙ section-there a.k a.image.now (omega arith)
