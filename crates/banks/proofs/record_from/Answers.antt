use Rattle.std.proofs.Common.{◌≡◌, ◌<◌, ◌*◌, ◌+◌, ◌-◌, length, replicate, take, ℕ, ◌∙◌, arith, rules, length-set}
use lib.Seq.{length-take-le}
use Rattle.banks.proofs.Making.{words-none, words-more, words-whole}
use Rattle.banks.proofs.record_from.Goals as goal

pub loop-i-init : goal.loop-i-init
loop-i-init c =
    let a = c.args in
    let k : 2 * a.count + 1 - 1 ≡ 2 * a.count = omega arith in
    let l : length (take (2 * a.count + 1 - 1) (replicate {A = ℕ} 32 0)) ≡ 2 * a.count =
    length-take-le (2 * a.count + 1 - 1) (replicate 32 0) (omega (arith, c.requires)) ∙ k in
    (search rules, l, l, words-none a.count _ a.shown.now c.requires k)

pub loop-i-preserved : goal.loop-i-preserved
loop-i-preserved c =
    let a = c.args in
    let l = c.loop-i in
    let v = l.invariant in
    let h : l.i < 2 * a.count = omega (arith, c.loop-i-test.true, v.2) in
    (omega (arith, h), simp length-set v.1, v.2, rw c.word_at.ensures (words-more a.count l.i a.shown.now l.word-items (omega (arith, h, c.requires)) (omega (arith, h, v.1)) v.3))

pub returns : goal.returns
returns c =
    let a = c.args in
    let l = c.loop-i in
    let v = l.invariant in
    let e : l.i ≡ 2 * a.count = omega (arith, c.loop-i-test.false, v.0, v.2) in
    words-whole a.count (2 * a.count + 1 - 1) a.shown.now l.word-items (omega arith) (rw e at v.3)
