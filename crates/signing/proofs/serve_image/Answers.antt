use mathlib.Core.Path.{◌≡◌, refl}
use native.Mathlib.Omega.{arith}
use Prim.Native.Nat.{◌+◌, ◌-◌}
use Rattle.words.specs.Word.{part}
use Rattle.queue_image.specs.Image.{lists_in}
use Rattle.request_rules.specs.OnImage.{push_on}
use Rattle.response_rules.specs.OnImage.{pull_on}
use Rattle.signing.specs.Signing.{op_of, op_at}
use Rattle.signing.specs.OnImage.{image_done}
use Rattle.signing.specs.Steps.{op_on}
use Rattle.signing.proofs.OnImages.{put-back-on, put-same-on, image-same}
use borrow.Author.Rules.{rules}
use Rattle.signing.proofs.serve_image.Goals as goal

pub returns-in-Push : goal.returns-in-Push
unfolding part op_on op_at op_of image_done push_on
returns-in-Push c =
    let a = c.args in
    let e : a.at + a.size - a.at ≡ a.size = omega arith in
    rw c.in-Push.is
    (put-same-on a.at a.size a.page.now _ _ _ _ a.image.now (search rules) (rw e at c.push_image.ensures))

pub returns-in-Pull : goal.returns-in-Pull
unfolding part op_on op_at op_of image_done pull_on
returns-in-Pull c =
    let a = c.args in
    let e : a.at + a.size - a.at ≡ a.size = omega arith in
    rw (c.in-Pull.is, e)
    (put-back-on a.at a.size a.page.now _ _ _ _ a.image.now _ (search rules)
    (rw e at c.pull_image.ensures))

pub returns-in-Key : goal.returns-in-Key
unfolding part op_on op_at op_of image_done
returns-in-Key c =
    let a = c.args in
    let e : a.at + a.size - a.at ≡ a.size = omega arith in
    rw (c.in-Key.is, e)
    (put-back-on a.at a.size a.page.now _ _ _ _ a.image.now _ (search rules)
    (image-same _ _ a.image.now (rw e at (c.put_key.ensures (lists_in a.image.now)))))

pub returns-in-Other : goal.returns-in-Other
unfolding part op_on op_at op_of image_done
returns-in-Other c =
    let a = c.args in
    rw (c.in-Other.is, c.refused.ensures)
    (put-same-on a.at a.size a.page.now _ _ _ _ a.image.now (search rules) (image-same _ _ a.image.now refl))
