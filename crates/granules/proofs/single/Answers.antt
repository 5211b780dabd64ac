use mathlib.Core.Path.{sym, ◌∙◌}
use Rattle.words.proofs.Tests.{both_l, both_r}
use Rattle.granule_rules.specs.Granules.{table_of}
use Rattle.granule_rules.proofs.Moving.{of-zeros}
use Rattle.granules.proofs.single.Goals as goal

pub move_shortcut-requires : goal.move_shortcut-requires
move_shortcut-requires c =
    let y = sym c.takes_shortcut.ensures ∙ c.if-takes_shortcut.true in
    (sym c.is_up.ensures ∙ c.if-is_up.true, both_l _ _ y, both_r _ _ y)

pub returns-then-takes_shortcut : goal.returns-then-takes_shortcut
returns-then-takes_shortcut c =
    let a = c.args in
    c.answered.ensures _ _ _ (of-zeros a.state a.granules.now a.direction (table_of a.table.now a.words.now) a.address) c.move_shortcut.ensures

pub returns : goal.returns
returns c =
    let a = c.args in
    c.answered-2.ensures _ _ _ (of-zeros a.state a.granules.now a.direction (table_of a.table.now a.words.now) a.address) c.move_one.ensures
