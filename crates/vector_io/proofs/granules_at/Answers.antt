use Rattle.std.proofs.Common.{arith}
use Rattle.vector_io.specs.Cases.{granules_from, granules_given, granules_at}
use Rattle.vector_io.proofs.Filling.{zeros_behind}
use Rattle.vector_io.proofs.granules_at.Goals as goal

pub returns : goal.returns
unfolding granules_at granules_given granules_from
returns c =
    let q = c.length_at-from.ensures.0 in
    let p = rw q at c.length_at-given.ensures.0 in
    rw (c.read_words.ensures, c.behind.ensures, p, q) (zeros_behind _ _ (omega arith))
