use mathlib.Core.Path.{refl, sym, ◌∙◌}
use lib.ListN.{length}
use Rattle.codes.specs.Codes.{boot_params}
use Rattle.codes.proofs.Gates.{went, stood}
use Rattle.granule_rules.specs.Granules.{table_of}
use Rattle.granule_rules.specs.Steps.{shared_code}
use Rattle.granule_rules.proofs.Moving.{shared-passed}
use Rattle.granule_rules.proofs.Lists.{told-list, list-none, list-refused}
use borrow.Author.Tests.{eqb-false}
use borrow.Author.Rules.{rules}
use Rattle.granules.proofs.move_list.Goals as goal

pub returns-then-is_empty : goal.returns-then-is_empty
returns-then-is_empty c =
    let a = c.args in
    list-none a.state a.granules.now a.direction (table_of a.table.now a.words.now) a.addresses.now
    (search rules) _ c.move_none.ensures

pub returns-in-Err : goal.returns-in-Err
returns-in-Err c =
    let a = c.args in
    let t = table_of a.table.now a.words.now in
    let g = stood (shared_code a.state a.granules.now (length t.bytes) t.words) (boot_params a.state) _ (sym c.in-Err.ensures) in
    list-refused a.state a.granules.now a.direction t _ (sym g.0) g.1
    a.addresses.now (eqb-false _ _ (sym c.is_empty.ensures ∙ c.if-is_empty.false)) _ c.refused.ensures

pub move_each-requires : goal.move_each-requires
move_each-requires c =
    let a = c.args in
    let t = table_of a.table.now a.words.now in
    let g = went (shared_code a.state a.granules.now (length t.bytes) t.words) (boot_params a.state) _ (sym c.in-Ok.ensures) in
    let p = shared-passed a.state a.granules.now t _ (sym g.0) refl in
    (p.some, p.count, p.fit)

pub returns-in-Ok : goal.returns-in-Ok
returns-in-Ok c =
    let a = c.args in
    let t = table_of a.table.now a.words.now in
    let g = went (shared_code a.state a.granules.now (length t.bytes) t.words) (boot_params a.state) _ (sym c.in-Ok.ensures) in
    let p = shared-passed a.state a.granules.now t _ (sym g.0) refl in
    told-list a.state a.granules.now a.direction t
    p.fit p.up _ g.1 a.addresses.now _ c.move_each.ensures
