use mathlib.Core.Path.{◌≡◌, refl, sym, ap, ◌∙◌}
use Prim.Native.Nat.{ℕ, ◌+◌, ◌*◌, ◌/◌}
use lib.ListN.{length, length-set}
use Rattle.words.proofs.Store.{bytes_to, bytes-out, bytes-none, bytes-more, bytes-all, word_more}
use Rattle.words.proofs.Bytes.{Bytes}
use borrow.Author.Rules.{rules}
use native.Mathlib.Omega.{arith}
use Rattle.words.proofs.copy_by_words.Goals as goal

pub returns-then-to-from : goal.returns-then-to-from
returns-then-to-from c = let a = c.args in sym (bytes-out 0 a.from.now a.to.now (omega arith))

pub loop-k-init : goal.loop-k-init
loop-k-init c = let a = c.args in (search rules, refl, bytes-none a.from.now a.to.now)

pub loop-k-preserved : goal.loop-k-preserved
loop-k-preserved c =
    let a = c.args in
    let l = c.loop-k in
    let n : Bytes a.from.now = λ i. omega (arith, c.shared_slice_known-1.given i) in
    let e = word_more a.from.now l.k a.to.now n (omega arith) (omega arith) in
    (search rules, search rules, c.write_u64.ensures ∙ rw (c.read_u64.ensures, l.invariant.2) e)

pub loop-i-init : goal.loop-i-init
loop-i-init c = (search rules, refl, λ s h e. e)

pub loop-i-preserved : goal.loop-i-preserved
loop-i-preserved c =
    let a = c.args in
    let l = c.loop-i in
    let n = c.loop-k.invariant.1 in (
      search rules,
      simp length-set (omega arith),
      λ s h e. rw (l.invariant.2 s h e) (bytes-more a.from.now l.i s (omega arith) (omega arith) (rw (← l.invariant.2 s h e) (omega arith))),
    )

pub returns : goal.returns
returns c =
    let a = c.args in
    let m = c.loop-k in
    let l = c.loop-i in
    let e : m.k ≡ length a.from.now / 8 = omega arith in
    l.invariant.2 a.to.now (sym m.invariant.1) (m.invariant.2 ∙ ap (λ (n : ℕ). bytes_to a.from.now (8 * n) a.to.now) e)
    ∙ bytes-all a.from.now a.to.now l.i (omega arith) (omega arith)
