use lib.ListN.{get_or}
use borrow.Author.Tests.{eq-eqb, ne_eqb}
use Rattle.images.specs.Image.{session_of}
use Rattle.images.proofs.session_of.Goals as goal

pub returns-then-image-eq0 : goal.returns-then-image-eq0
unfolding session_of
returns-then-image-eq0 c =
    let w = c.args.image.now in
    rw c.idle.ensures (simp (eq-eqb (get_or w 0 0) 0 c.if-image-eq0.true))

pub returns : goal.returns
unfolding session_of
returns c =
    let w = c.args.image.now in
    simp (ne_eqb (get_or w 0 0) 0 c.if-image-eq0.false)
