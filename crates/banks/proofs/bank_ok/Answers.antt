use Rattle.std.proofs.Common.{◌∙◌}
use Rattle.words.specs.Tests.{both}
use Rattle.entries.specs.Fast.{bank_clear}
use Rattle.banks.proofs.bank_ok.Goals as goal

pub returns : goal.returns
unfolding bank_clear both
returns c = c.banks_clear.ensures ∙ c.with_bank.ensures ∙ rw c.none.ensures
