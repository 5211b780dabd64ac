use lib.ListN.{get_or}
use borrow.Author.Tests.{eq-eqb, ne_eqb}
use Rattle.images.specs.Image.{section_by, section_in}
use Rattle.images.proofs.section_in.Goals as goal

pub returns-then-image-at-eq0 : goal.returns-then-image-at-eq0
unfolding section_by section_in
returns-then-image-at-eq0 c =
    let a = c.args in
    simp (eq-eqb (get_or a.image.now a.at 0) 0 c.if-image-at-eq0.true)

pub returns-then-image-at-eq1 : goal.returns-then-image-at-eq1
unfolding section_by section_in
returns-then-image-at-eq1 c =
    let a = c.args in
    simp (
      ne_eqb (get_or a.image.now a.at 0) 0 c.if-image-at-eq0.false,
      eq-eqb (get_or a.image.now a.at 0) 1 c.if-image-at-eq1.true,
    )

pub returns : goal.returns
unfolding section_by section_in
returns c =
    let a = c.args in
    simp (
      ne_eqb (get_or a.image.now a.at 0) 0 c.if-image-at-eq0.false,
      ne_eqb (get_or a.image.now a.at 0) 1 c.if-image-at-eq1.false,
    )
