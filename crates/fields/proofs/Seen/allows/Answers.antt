use mathlib.Core.Path.{sym, ap, ◌∙◌}
use mathlib.Core.Bool.{not}
use Rattle.words.specs.Tests.{both}
use Rattle.fields.specs.Steps.{allowed}
use Rattle.fields.proofs.Seen.allows.Goals as goal

pub returns-then-length_ok : goal.returns-then-length_ok
unfolding allowed both
returns-then-length_ok c =
    let l = c.length_ok in rw (sym l.ensures ∙ c.if-length_ok.true) (ap not c.has.ensures)

pub returns-else-length_ok : goal.returns-else-length_ok
unfolding allowed both
returns-else-length_ok c =
    let l = c.length_ok in rw (sym l.ensures ∙ c.if-length_ok.false) c.if-length_ok.false
