use mathlib.Core.Path.{sym, ap, ◌∙◌}
use Rattle.field_lookup.specs.Steps.{shown_from}
use Rattle.field_lookup.proofs.Fields.{start_none, start-broken, start-there, started}
use borrow.Author.Rules.{rules}
use Rattle.field_lookup.proofs.fields_start.Goals as goal

pub returns-then-plat-eq0 : goal.returns-then-plat-eq0
returns-then-plat-eq0 c =
    let a = c.args in
    let e = start_none a.page.now a.view (search rules) in
    record { value = e; page_value = ap (λ x. shown_from x a.page.now) e ∙ started a.page.now a.view }

pub returns-in-None : goal.returns-in-None
returns-in-None c =
    let a = c.args in
    let e = start-broken a.page.now a.view (search rules) (sym c.scan_at.ensures ∙ c.in-None.is) in
    record { value = e; page_value = ap (λ x. shown_from x a.page.now) e ∙ started a.page.now a.view }

pub returns-in-Some : goal.returns-in-Some
returns-in-Some c =
    let a = c.args in
    let e = start-there a.page.now a.view (search rules) _ (sym c.scan_at.ensures ∙ c.in-Some.is) in
    record { value = e; page_value = ap (λ x. shown_from x a.page.now) e ∙ started a.page.now a.view }
