use Rattle.std.proofs.Common.{refl, rules}
use Rattle.words.proofs.Store.{lent_back}
use Rattle.writer.proofs.put_fields.Goals as goal

pub returns : goal.returns
returns c =
    let a = c.args in
    (refl, rw c.copy.ensures (lent_back a.at a.fields.now a.page.now (search rules)))
