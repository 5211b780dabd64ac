use Rattle.std.proofs.Common.{◌+◌, length, arith}
use borrow.Author.Tests.{le-leb, lt-leb}
use Rattle.words.specs.Fast.{whole_word}
use Rattle.words.proofs.Read.{num-chunk}
use Rattle.words.proofs.whole_word.Goals as goal

pub returns-in-Some : goal.returns-in-Some
unfolding whole_word
returns-in-Some c =
    let a = c.args in
    simp (le-leb (a.at + 8) (length a.s.now) (omega (arith, c.in-Some.ensures.0))) (num-chunk 7 a.at _ a.s.now c.in-Some.ensures.1 c.from_le_bytes.ensures)

pub returns-in-None : goal.returns-in-None
unfolding whole_word
returns-in-None c =
    let a = c.args in
    simp (lt-leb (a.at + 8) (length a.s.now) (omega (arith, c.in-None.ensures)))
