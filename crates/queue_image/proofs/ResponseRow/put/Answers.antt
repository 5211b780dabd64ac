use Prim.Native.Nat.{◌+◌}
use mathlib.Core.Path.{◌≡◌, sym, ap, ◌∙◌}
use mathlib.Core.List.{[], ◌∷◌}
use native.Mathlib.Omega.{arith}
use lib.ListN.{length, take, length-set}
use lib.Seq.{length-take-le}
use Rattle.words.specs.Word.{words_of, splice}
use Rattle.words.proofs.Store.{splice-splice}
use Rattle.queue.specs.Queue.{signed_in}
use Rattle.queue.proofs.Sides.{taken-all}
use Rattle.queue_image.specs.Image.{response_words}
use Rattle.queue_image.proofs.Rows.{put_three}
use borrow.Author.Rules.{rules}
use Rattle.queue_image.proofs.ResponseRow.put.Goals as goal

pub bounds-image-at-2 : goal.bounds-image-at-2
bounds-image-at-2 c = simp length-set (omega arith)

pub bounds-image-at-3 : goal.bounds-image-at-3
bounds-image-at-3 c = simp length-set (omega arith)

pub slice_bounds-signature-end : goal.slice_bounds-signature-end
slice_bounds-signature-end c =
    let l : length c.args.self.signature ≡ 104 = search rules in
    omega (arith, c.signature_len-n.ensures.1)

pub slice_bounds-put_bytes-end : goal.slice_bounds-put_bytes-end
slice_bounds-put_bytes-end c =
    let s = c.args.self.signature in
    let l : length s ≡ 104 = search rules in
    sym (length-take-le c.signature_len-n.result s
    (omega (arith, c.signature_len-n.ensures.1)))

pub put_bytes-requires : goal.put_bytes-requires
put_bytes-requires c = (simp length-set (omega arith), search rules)

pub shape_of-image : goal.shape_of-image
shape_of-image c = c.image-1.given ∙ simp length-set

pub returns : goal.returns
unfolding response_words signed_in
returns c =
    let a = c.args in
    let r = a.self in
    let s = a.image.now in
    let n = c.signature_len-n.result in
    let e = c.signature_len-n.ensures.0 in
    let bytes : take n r.signature ≡ take r.len r.signature = ap (λ i. take i r.signature) e ∙
    taken-all r.len r.signature in
    c.put_bytes.ensures
    ∙ ap (splice (a.at + 3) (words_of 13 (take n r.signature))) (put_three s a.at r.granule r.ticket n (omega arith))
    ∙ splice-splice a.at (r.granule ∷ r.ticket ∷ n ∷ []) s (omega arith) (words_of 13 (take n r.signature))
    ∙ rw (bytes, e)
