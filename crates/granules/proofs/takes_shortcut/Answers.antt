use mathlib.Core.Path.{sym, ◌∙◌}
use Rattle.words.specs.Tests.{both}
use Rattle.granules.proofs.takes_shortcut.Goals as goal

pub returns-then-has_one_bank : goal.returns-then-has_one_bank
unfolding both
returns-then-has_one_bank c = rw (sym c.has_one_bank.ensures ∙ c.if-has_one_bank.true) c.words_fit.ensures

pub returns-else-has_one_bank : goal.returns-else-has_one_bank
unfolding both
returns-else-has_one_bank c = rw (sym c.has_one_bank.ensures ∙ c.if-has_one_bank.false) c.if-has_one_bank.false
