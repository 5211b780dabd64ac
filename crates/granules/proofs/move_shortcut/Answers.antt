use mathlib.Core.Path.{◌∙◌}
use lib.ListN.{length}
use Rattle.words.specs.Tests.{Yes}
use Rattle.banks.specs.Banks.{granule_count}
use Rattle.banks.proofs.Fast.{one-fits, first-is}
use Rattle.realm_words.specs.Answers.{words_fit}
use Rattle.granule_rules.specs.Granules.{table_of}
use Rattle.granule_rules.proofs.Moving.{granule-inside, result_up}
use Rattle.granules.proofs.move_shortcut.Goals as goal

pub move_at-requires : goal.move_at-requires
move_at-requires c =
    let a = c.args in
    let o = one-fits a.granules.now (length a.table.now) c.requires.1 in
    let w : Yes (words_fit a.words.now (granule_count a.granules.now)) = rw o.2 c.requires.2 in
    let k = c.find_first-granule.ensures ∙ first-is a.granules.now (length a.table.now) a.address c.requires.1 in
    granule-inside a.granules.now a.table.now a.words.now a.address _ w k

pub returns : goal.returns
returns c =
    let a = c.args in
    let o = one-fits a.granules.now (length a.table.now) c.requires.1 in
    let w : Yes (words_fit a.words.now (granule_count a.granules.now)) = rw o.2 c.requires.2 in
    let k = c.find_first-granule.ensures ∙ first-is a.granules.now (length a.table.now) a.address c.requires.1 in
    result_up a.state a.granules.now a.direction (table_of a.table.now a.words.now) a.address w c.requires.0
    _ c.boot_params-params.ensures _ _ _ (c.move_at.ensures a.granules.now k)
