use Rattle.words.proofs.Store.{put_one}
use borrow.Author.Rules.{rules}
use Rattle.words.proofs.write_u8.Goals as goal

pub returns : goal.returns
returns c = put_one _ _ _ (search rules)
