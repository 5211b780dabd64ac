use mathlib.Core.Path.{◌≡◌}
use lib.ListN.{length}
use Rattle.queue.proofs.Holding.{signed-laid}
use borrow.Author.Rules.{rules}
use Rattle.queue.proofs.ResponseEntry.cleared.Goals as goal

pub returns : goal.returns
returns c =
    let r = c.args.self.now in
    let l : length r.signature ≡ 104 = search rules in
    let n = c.signature_len-len in
    signed-laid r n.result c.copy.new.to l n.ensures.0 c.copy.ensures
