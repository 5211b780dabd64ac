use Prim.Native.Nat.{◌/◌}
use mathlib.Core.Path.{◌∙◌}
use lib.ListN.{length}
use Rattle.std.proofs.lemmas.Iterator.Search.{position_from_yields_List}
use Rattle.std.proofs.lemmas.Iterator.Adapters.{position_from-zero}
use borrow.Author.Rules.{rules}
use borrow.Author.Tests.{tests}
use Rattle.lookup.proofs.Consoles.{has_word, consoles, chunks, first-named, array-named}
use Rattle.lookup.proofs.find_console.Goals as goal

pub returns : goal.returns
returns c =
    let a = c.args in
    let bs = c.array_of.result.now in
    position_from_yields_List (has_word a.name.now) _ _ c.position.result c.position.ensures.ran
    (chunks bs c.chunks_exact.ensures.rest c.chunks_exact.ensures.size) (λ x b q k. search (rules, tests))
    ∙ position_from-zero (has_word a.name.now) (consoles (length bs / 48) bs) ∙ first-named bs a.name.now
    ∙ array-named a.page.now a.view bs a.name.now c.array_of.ensures.result_value
