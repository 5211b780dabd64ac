use Rattle.std.proofs.Common.{◌%◌, length, ap, ◌∙◌, rules, arith}
use Rattle.fields.specs.Fields.{scan_of, fields_in}
use Rattle.field_lookup.proofs.Fields.{count_none, count-there, count-out, lent-on}
use Rattle.field_lookup.proofs.field_count.Goals as goal

pub returns-then-plat-eq0 : goal.returns-then-plat-eq0
returns-then-plat-eq0 c = let a = c.args in count_none a.page.now a.view (search rules)

pub returns-in-Some : goal.returns-in-Some
returns-in-Some c =
    let a = c.args in
    let t = c.in-Some.ensures.lookup in
    let e = t.0.2 ∙ lent-on (a.view.plat % 4096) a.page.now in
    c.count.ensures ∙ ap (λ s. length (fields_in (scan_of s))) e ∙ count-there a.page.now a.view c.if-plat-eq0.false

pub returns-in-None : goal.returns-in-None
returns-in-None c =
    let a = c.args in count-out a.page.now a.view c.if-plat-eq0.false (omega (arith, c.in-None.ensures.lookup))
