use borrow.Author.Rules.{rules}
use Rattle.vector_io.specs.Cases.{granules_from, granules_given, words_from}
use Rattle.vector_io.proofs.words_at.Goals as goal

pub returns : goal.returns
unfolding words_from granules_given granules_from
returns c =
    let q = c.length_at-from.ensures.0 in
    let p = rw q at c.length_at.ensures.0 in
    (rw (p, q), search rules)
