use Rattle.images.specs.Image.{console_number}
use borrow.Author.Rules.{rules}
use Rattle.images.proofs.console_number.Goals as goal

pub returns : goal.returns
unfolding console_number
returns c = search rules
