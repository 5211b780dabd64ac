use Rattle.std.proofs.Common.{sym, ◌∙◌, rules}
use Rattle.banks.proofs.Fast.{found-near, found-on, none-is}
use Rattle.banks.proofs.find_from.Goals as goal

pub returns-then-is_some : goal.returns-then-is_some
returns-then-is_some c =
    let a = c.args in
    found-near a.granules.now a.bank a.address _ c.granule_in-granule.ensures (sym c.is_some.ensures ∙ c.if-is_some.true)

pub returns : goal.returns
returns c =
    let a = c.args in
    found-on a.granules.now a.bank _ a.address _
    (sym c.granule_in-granule.ensures ∙ none-is _ (sym c.is_some.ensures ∙ c.if-is_some.false))
    c.bank_of-own.ensures (search rules)
