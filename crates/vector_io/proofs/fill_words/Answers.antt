use Rattle.vector_io.specs.Cases.{fill_into}
use Rattle.vector_io.proofs.Filling.{read-not}
use borrow.Author.Rules.{rules}
use Rattle.vector_io.proofs.fill_words.Goals as goal

pub returns-then-list-gt600 : goal.returns-then-list-gt600
unfolding fill_into
returns-then-list-gt600 c = let a = c.args in read-not _ a.list.now (search rules)

pub returns : goal.returns
unfolding fill_into
returns c =
    rw (
      c.read_words.ensures,
      c.part_of.ensures.result_value,
      c.words_at-from.ensures.0,
    )
