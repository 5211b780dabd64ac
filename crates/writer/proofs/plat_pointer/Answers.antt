use Rattle.std.proofs.Common.{refl, rules}
use Rattle.writer.proofs.Pages.{pointer_none, pointer-some}
use Rattle.writer.proofs.plat_pointer.Goals as goal

pub returns-then-fields-eq0 : goal.returns-then-fields-eq0
returns-then-fields-eq0 c =
    let a = c.args in
    pointer_none a.base a.e.minor a.lists.dram.now a.lists.console.now a.lists.ncoh.now a.lists.coh.now a.fields.now (search rules)

pub returns : goal.returns
returns c =
    let a = c.args in
    pointer-some a.base a.e.minor _ _ a.lists.dram.now a.lists.console.now a.lists.ncoh.now a.lists.coh.now a.fields.now (search rules)
    c.core_size.ensures.0 refl
