use Rattle.std.proofs.Common.{sym, ◌∙◌, arith}
use Rattle.sections.proofs.Core.{core-word}
use Rattle.pack.proofs.Kept.{place_none, place-some}
use Rattle.pack.proofs.fields_place.Goals as goal

pub returns-then-plat-eq0 : goal.returns-then-plat-eq0
returns-then-plat-eq0 c =
    let a = c.args in
    place_none a.page.now (sym (c.word_at-plat.ensures ∙
    core-word a.page.now a.core.now c.requires 8 (omega arith) (omega arith)) ∙ c.if-plat-eq0.true)

pub returns : goal.returns
returns c =
    let a = c.args in
    place-some a.page.now _ (c.word_at-plat.ensures ∙
    core-word a.page.now a.core.now c.requires 8 (omega arith) (omega arith)) c.if-plat-eq0.false
