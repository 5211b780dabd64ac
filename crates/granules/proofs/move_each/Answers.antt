use mathlib.Core.Path.{refl, sym, ◌∙◌}
use native.Mathlib.Omega.{arith}
use lib.ListN.{length}
use Rattle.banks.specs.Banks.{granule_count}
use Rattle.banks.proofs.Fast.{none-span, found-is}
use Rattle.codes.specs.declared.Code.TheVariants.{Ok}
use Rattle.granule_rules.specs.Granules.{table_of, moved_to}
use Rattle.granule_rules.specs.Steps.{move_at}
use Rattle.granule_rules.proofs.Moving.{granule-inside, fit-long, told-lengths, moved-ok, moved-err, at-zeros}
use Rattle.granule_rules.proofs.Lists.{told-last, told_more, told-stop}
use borrow.Author.Rules.{rules}
use Rattle.granules.proofs.move_each.Goals as goal

pub loop-i-init : goal.loop-i-init
loop-i-init c =
    let a = c.args in
    (search rules, refl, refl, rw c.no_bank-bank.ensures (none-span a.granules.now), refl)

pub move_at-requires : goal.move_at-requires
move_at-requires c =
    let l = c.loop-i in
    let a = c.args in
    let k = found-is a.granules.now l.bank (length l.table) _ c.find_from-found.result c.requires.0 (c.requires.1 ∙ sym l.invariant.1)
    l.invariant.3 c.find_from-found.ensures in
    granule-inside a.granules.now l.table l.words _ _
    (fit-long l.words a.words.now (granule_count a.granules.now) l.invariant.2 c.requires.2) k.0

pub returns-in-Err : goal.returns-in-Err
returns-in-Err c =
    let l = c.loop-i in
    let a = c.args in
    let k = found-is a.granules.now l.bank (length l.table) _ c.find_from-found.result c.requires.0 (c.requires.1 ∙ sym l.invariant.1)
    l.invariant.3 c.find_from-found.ensures in
    let m = moved-err _ _ _ (at-zeros a.params a.granules.now a.direction (table_of l.table l.words) _) _ (c.in-Err.ensures a.granules.now k.0) in
    told-stop (move_at a.params a.granules.now a.direction) a.addresses.now l.i (table_of l.table l.words) _
    l.invariant.4 c.loop-i-test.true _ _ _ m.0 _ refl m.1 _ c.answer_with.ensures

pub overflow_step-i : goal.overflow_step-i
overflow_step-i c =
    search rules

pub loop-i-preserved : goal.loop-i-preserved
unfolding moved_to
loop-i-preserved c =
    let l = c.loop-i in
    let a = c.args in
    let k = found-is a.granules.now l.bank (length l.table) _ c.find_from-found.result c.requires.0 (c.requires.1 ∙ sym l.invariant.1)
    l.invariant.3 c.find_from-found.ensures in
    let e = moved-ok _ _ _ (at-zeros a.params a.granules.now a.direction (table_of l.table l.words) _) (c.in_default.ensures a.granules.now k.0) in
    let n = told-lengths a.params a.granules.now a.direction (table_of l.table l.words) _ _ e in (
      search rules,
      n.0 ∙ l.invariant.1,
      n.1 ∙ l.invariant.2,
      k.1,
      told_more (move_at a.params a.granules.now a.direction) a.addresses.now l.i (table_of l.table l.words) _
          l.invariant.4
          (search rules) Ok _ _ e _ refl refl,
    )

pub returns : goal.returns
unfolding moved_to
returns c =
    let l = c.loop-i in
    let a = c.args in
    told-last (move_at a.params a.granules.now a.direction) a.addresses.now l.i (table_of l.table l.words) _
    l.invariant.4 (omega arith) _ c.ok.ensures
