use native.Mathlib.Omega.{arith}
use Rattle.queue_image.proofs.InPlace.{row-signature}
use borrow.Author.Rules.{rules}
use Rattle.queue_image.proofs.len_in.Goals as goal

pub returns : goal.returns
returns c =
    let a = c.args in
    (omega (arith, c.min.ensures, row-signature a.at a.image.now (search rules)), omega (arith, c.min.ensures))
