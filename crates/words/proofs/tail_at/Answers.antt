use Rattle.std.proofs.Common.{◌∙◌, arith, sym, ap, length}
use Rattle.std.proofs.lemmas.Slice.{between_to_end}
use Rattle.words.specs.Word.{le_of}
use Rattle.words.proofs.Read.{num-rest, num-out}
use Rattle.words.proofs.tail_at.Goals as goal

pub returns-in-Some : goal.returns-in-Some
returns-in-Some c =
    let a = c.args in
    c.number.ensures ∙ ap le_of (c.in-Some.ensures.lookup.0.2 ∙ between_to_end a.s.now a.at (length a.s.now) (omega arith))
    ∙ num-rest 8 a.at a.s.now (omega arith)

pub returns-in-None : goal.returns-in-None
returns-in-None c = let a = c.args in sym (num-out 8 a.at a.s.now (omega (arith, c.in-None.ensures.lookup.0)))
