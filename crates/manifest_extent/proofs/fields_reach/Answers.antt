use mathlib.Core.Path.{sym, ◌∙◌}
use Rattle.manifest_extent.proofs.Kept.{reach-none, reach-broken, reach-past, reach-ended}
use borrow.Author.Rules.{rules}
use Rattle.manifest_extent.proofs.fields_reach.Goals as goal

pub returns-then-plat-eq0 : goal.returns-then-plat-eq0
returns-then-plat-eq0 c = let a = c.args in (reach-none a.plat a.page.now (search rules), search rules)

pub returns-in_default : goal.returns-in_default
returns-in_default c =
    let a = c.args in (
      reach-broken a.plat a.page.now (search rules) (sym c.scan_at.ensures ∙ c.in_default.is),
      search rules,
    )

pub returns-then-at-n : goal.returns-then-at-n
returns-then-at-n c =
    let a = c.args in (
      reach-past a.plat a.page.now (search rules) _ (sym c.scan_at.ensures ∙
          c.in-Some.is) (search rules),
      search rules,
    )

pub returns : goal.returns
returns c =
    let a = c.args in (
      reach-ended a.plat a.page.now (search rules) _
          (sym c.scan_at.ensures ∙ c.in-Some.is) (search rules),
      search rules,
    )
