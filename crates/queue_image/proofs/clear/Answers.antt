use Prim.Native.Nat.{ℕ, ◌+◌, ◌-◌, ◌≤◌}
use mathlib.Core.Path.{◌≡◌, ◌∙◌, sym, ap}
use mathlib.Core.List.{List}
use native.Mathlib.Omega.{arith}
use lib.ListN.{length, take, drop, length-drop, replicate, length-replicate}
use lib.Seq.{length-take-le, take_all}
use borrow.Rule.Slice.PartMut.{put_mid}
use Rattle.std.proofs.lemmas.Slice.{put_mid-paste}
use Rattle.words.specs.Word.{splice}
use Rattle.queue_image.proofs.clear.Goals as goal

zeroed : (at n k : ℕ) (w v : List ℕ) → k ≡ n → at + n ≤ length w → v ≡ replicate (length (take k (drop at w))) 0 →
    put_mid at k w v ≡ splice at (replicate n 0) w
unfolding splice
zeroed at n k w v e h f =
    let z : List ℕ = replicate n 0 in
    let l : length z ≡ n = length-replicate {A = ℕ} n 0 in
    let m : length (take k (drop at w)) ≡ n = length-take-le k (drop at w) (omega (arith, length-drop at w)) ∙ e in
    let t : take n z ≡ z = take_all n z (omega (arith, l)) in
    put_mid-paste at k w v z n (f ∙ ap (λ (i : ℕ). replicate i 0) m) (sym e) (sym l) ∙ rw (l, t)

pub returns : goal.returns
returns c =
    let a = c.args in
    zeroed a.at a.n (a.at + a.n - a.at) a.image.now c.fill.new.self (omega arith) c.requires (c.fill.ensures.after (λ y h. h))
