use Prim.Native.Nat.{◌+◌}
use mathlib.Core.Path.{ap, ◌∙◌}
use mathlib.Core.List.{[], ◌∷◌}
use native.Mathlib.Omega.{arith}
use lib.ListN.{length-set}
use Rattle.words.specs.Word.{words_of, splice}
use Rattle.words.proofs.Store.{splice-splice}
use Rattle.queue_image.specs.Image.{request_words}
use Rattle.queue_image.proofs.Rows.{put_four}
use borrow.Author.Rules.{rules}
use Rattle.queue_image.proofs.RequestRow.put.Goals as goal

pub bounds-image-at-2 : goal.bounds-image-at-2
bounds-image-at-2 c = simp length-set (omega arith)

pub bounds-image-at-3 : goal.bounds-image-at-3
bounds-image-at-3 c = simp length-set (omega arith)

pub bounds-image-at-4 : goal.bounds-image-at-4
bounds-image-at-4 c = simp length-set (omega arith)

pub put_bytes-requires : goal.put_bytes-requires
put_bytes-requires c = (simp length-set (omega arith), search rules)

pub shape_of-image : goal.shape_of-image
shape_of-image c = c.image-1.given ∙ simp length-set

pub returns : goal.returns
unfolding request_words
returns c =
    let a = c.args in
    let r = a.self in
    let s = a.image.now in
    c.put_bytes.ensures
    ∙ ap (splice (a.at + 4) (words_of 6 r.hash)) (put_four s a.at r.algorithm r.granule r.ticket r.hashid (omega arith))
    ∙ splice-splice a.at (r.algorithm ∷ r.granule ∷ r.ticket ∷ r.hashid ∷ []) s (omega arith) (words_of 6 r.hash)
