use Rattle.std.proofs.Common.{◌≡◌, length, ap, ◌∙◌, arith, rules}
use Rattle.words.proofs.Lists.{bytes_of-length, joined-mono}
use Rattle.pack.specs.Steps.{array_words_in}
use Rattle.sections.proofs.Core.{core-count, core-pointer}
use Rattle.pack.proofs.Moves.{joined-none, joined-grow, laid_none, laid_more}
use Rattle.pack.proofs.put_arrays.Goals as goal

pub loop-k-init : goal.loop-k-init
loop-k-init c =
    let a = c.args in (
      search rules,
      c.requires.1,
      omega (arith, joined-none (array_words_in a.page.now)),
      laid_none (array_words_in a.page.now) a.from a.target.now,
    )

pub array_of-requires : goal.array_of-requires
array_of-requires c =
    let a = c.args in
    let p = c.requires in
    let l = c.loop-k in (
      p.3 l.k (omega arith),
      p.0,
      c.count_at-count.ensures ∙ core-count a.page.now a.core.now p.4 l.k (omega arith),
      c.pointer_at-pointer.ensures ∙ core-pointer a.page.now a.core.now p.4 l.k (omega arith),
    )

pub put_bytes-at-requires : goal.put_bytes-at-requires
put_bytes-at-requires c =
    let a = c.args in
    let l = c.loop-k in
    let m = joined-mono a.n (array_words_in a.page.now) l.k (omega arith) in
    let n = ap length c.array_of.ensures in
    (omega (arith, bytes_of-length (array_words_in a.page.now l.k)), search rules)

pub loop-k-preserved : goal.loop-k-preserved
loop-k-preserved c =
    let a = c.args in
    let l = c.loop-k in
    let n = ap length c.array_of.ensures in (
      search rules,
      search rules,
      omega (
        arith,
        joined-grow (array_words_in a.page.now) l.k,
        bytes_of-length (array_words_in a.page.now l.k),
        c.put_bytes-at.ensures.0,
      ),
      c.put_bytes-at.ensures.1 ∙ laid_more (array_words_in a.page.now) a.from l.k l.at _ _ a.target.now
          (omega arith) l.invariant.2 c.array_of.ensures l.invariant.3,
    )

pub returns : goal.returns
returns c =
    let l = c.loop-k in
    let e : l.k ≡ c.args.n = omega arith in rw (← e) (l.invariant.2, l.invariant.3)
