use mathlib.Core.Path.{◌≡◌, sym, ◌∙◌}
use lib.ListN.{length}
use Rattle.std.proofs.Common.{Some, None}
use Rattle.sections.specs.Page.{platform_at, page_platform}
use Rattle.sections.specs.Steps.{plat_end}
use Rattle.sections.proofs.Sections.{placed, plat-ended, plat-top}
use Rattle.mend.proofs.Parts.{plat-goes, plat-stays, rule_told}
use native.Mathlib.Omega.{arith}
use Rattle.mend.proofs.mend_plat.Goals as goal

pub returns-in_default : goal.returns-in_default
returns-in_default c =
    let a = c.args in
    let q : None ≡ plat_end a.e.minor a.base (platform_at a.base a.page.now) =
    sym c.in_default.is ∙
    rule_told c.requires c.plat_rule.ensures in
    plat-goes a.e.minor a.base a.page.now q _ c.put_word.ensures

pub overflow_add-to : goal.overflow_add-to
unfolding platform_at page_platform
overflow_add-to c =
    let a = c.args in
    let q : Some c.in-Some.taken ≡ plat_end a.e.minor a.base (platform_at a.base a.page.now) =
    sym c.in-Some.is ∙ rule_told c.requires c.plat_rule.ensures in
    let t = plat-ended a.e.minor a.base (platform_at a.base a.page.now) c.in-Some.taken q in
    let n = placed a.base (length a.page.now) c.requires in
    omega (arith, t.1, n.3, c.word_at-from.ensures, plat-top a.e.minor a.base a.page.now n.0 t.0)

pub returns : goal.returns
returns c =
    let a = c.args in
    let q : Some c.in-Some.taken ≡ plat_end a.e.minor a.base (platform_at a.base a.page.now) =
    sym c.in-Some.is ∙ rule_told c.requires c.plat_rule.ensures in
    rw (← c.word_at-from.ensures) at (plat-stays a.e.minor a.base a.page.now c.in-Some.taken q)
