use mathlib.Core.Path.{sym, ◌∙◌}
use Rattle.words.specs.Tests.{both}
use Rattle.realm_words.proofs.both_fit.Goals as goal

pub returns-then-words_fit : goal.returns-then-words_fit
unfolding both
returns-then-words_fit c = rw (sym c.words_fit.ensures ∙ c.if-words_fit.true)

pub returns-else-words_fit : goal.returns-else-words_fit
unfolding both
returns-else-words_fit c = rw (sym c.words_fit.ensures ∙ c.if-words_fit.false) c.if-words_fit.false
