use Prim.Native.Nat.{◌+◌, ◌-◌}
use mathlib.Core.Path.{◌≡◌, ◌∙◌}
use native.Mathlib.Omega.{arith}
use lib.ListN.{length, take, drop, length-drop}
use lib.Seq.{length-take-le}
use Rattle.words.specs.Word.{part, splice}
use Rattle.queue_image.proofs.move_up.Goals as goal

pub returns : goal.returns
unfolding splice part
returns c =
    let a = c.args in
    let w = a.image.now in
    let e : a.start + a.width + a.n - (a.start + a.width) ≡ a.n = omega arith in
    let l : length (take a.n (drop (a.start + a.width) w)) ≡ a.n =
    length-take-le a.n (drop (a.start + a.width) w) (omega (arith, c.requires, length-drop (a.start + a.width) w)) in
    c.copy_within.ensures.after ∙ rw (e, l)
