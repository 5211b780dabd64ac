use Rattle.std.proofs.Common.{◌≡◌, ◌≤◌, ◌∙◌, refl, sym, ap, arith, ◌+◌, ◌-◌, List, ℕ, length, min, take}
use lib.ListN.{drop, length-drop}
use lib.Seq.{length-take-le}
use Rattle.words.proofs.Store.{bytes-none, bytes-more, bytes-all, laid-all}
use Rattle.text_lines.proofs.Lay.{laid_put}
use Rattle.text_lines.proofs.Out.put.Goals as goal

-- the text that is shown is as long as the part of the slice that is lent for it
as_long : (text s : List ℕ) (at from n : ℕ) → from ≡ min at (length s) → n ≡ min (length text) (length s - from) →
    length (take n text) ≡ length (take (from + n - from) (drop from s))
as_long text s at from n h k =
    let room : from + n - from ≤ length (drop from s) = rw length-drop (omega arith) in
    length-take-le n text (omega arith) ∙ sym (length-take-le (from + n - from) (drop from s) room ∙ (let e : from + n - from ≡ n = omega arith in e))

pub loop-i-init : goal.loop-i-init
loop-i-init c = bytes-none _ _

pub loop-i-preserved : goal.loop-i-preserved
loop-i-preserved c =
    let a = c.args in
    let l = c.loop-i in
    let e = as_long a.text.now a.self.now.bytes.now a.self.now.at _ _ c.min-from.ensures c.min-n.ensures in
    rw l.invariant (bytes-more _ l.i _ c.loop-i-test.true (omega (arith, e)) (sym (ap length l.invariant) ∙ l.auto.to))

pub returns : goal.returns
returns c =
    let a = c.args in
    let l = c.loop-i in
    let s = a.self.now.bytes.now in
    let f = c.min-from.result in
    let k = c.min-n.result in
    let n : f + k - f ≡ k = omega arith in
    let e = as_long a.text.now s a.self.now.at f k c.min-from.ensures c.min-n.ensures in
    let all = bytes-all (take k a.text.now) (take (f + k - f) (drop f s)) l.i (omega arith) (omega (arith, e)) ∙ laid-all _ _ e in
    let w = laid_put c.min-from.ensures c.min-n.ensures c.saturating_add-self.ensures (rw (l.invariant ∙ all, n)) in
    record { lent = refl; same = w.same; laid = λ i. w }
