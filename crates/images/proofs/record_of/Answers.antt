use lib.ListN.{get_or}
use borrow.Author.Tests.{eq-eqb, ne_eqb}
use Rattle.images.specs.Image.{record_of}
use Rattle.images.proofs.record_of.Goals as goal

pub returns-then-image-eq0 : goal.returns-then-image-eq0
unfolding record_of
returns-then-image-eq0 c =
    let w = c.args.image.now in
    rw c.fresh.ensures (simp (eq-eqb (get_or w 0 0) 0 c.if-image-eq0.true))

pub returns-then-image-eq1 : goal.returns-then-image-eq1
unfolding record_of
returns-then-image-eq1 c =
    let w = c.args.image.now in
    simp (
      ne_eqb (get_or w 0 0) 0 c.if-image-eq0.false,
      eq-eqb (get_or w 0 0) 1 c.if-image-eq1.true,
    )

pub returns : goal.returns
unfolding record_of
returns c =
    let w = c.args.image.now in
    simp (ne_eqb (get_or w 0 0) 0 c.if-image-eq0.false, ne_eqb (get_or w 0 0) 1 c.if-image-eq1.false)
