use Rattle.std.proofs.Common.{◌≡◌, ap, ◌∙◌, arith, rules}
use Rattle.words.proofs.Lists.{joined-mono}
use Rattle.pack.specs.Steps.{array_words_in, section_moved}
use Rattle.entries.specs.Entry.{size}
use Rattle.pack.proofs.Core.{core-size, core-room}
use Rattle.pack.proofs.Moves.{array_size, joined-none, joined-grow, laid_none, section-more}
use Rattle.pack.proofs.put_sections.Goals as goal

pub loop-k-init : goal.loop-k-init
loop-k-init c =
    let a = c.args in (
      search rules,
      c.requires.1,
      omega (arith, joined-none (array_words_in a.page.now)),
      laid_none (section_moved a.first a.page.now) 16 a.target.now,
    )

pub section_words-three-requires : goal.section_words-three-requires
section_words-three-requires c = (
  c.requires.3 c.loop-k.k (omega arith),
  c.requires.4,
  omega arith,
)

pub array_size-requires : goal.array_size-requires
array_size-requires c =
    let a = c.args in
    let l = c.loop-k in
    rw c.count_at.ensures (core-room a.page.now a.core.now c.requires.4 l.k (omega arith)
    c.requires.0 (c.requires.3 l.k (omega arith)))

pub overflow_add-pointer : goal.overflow_add-pointer
overflow_add-pointer c =
    let a = c.args in
    let l = c.loop-k in
    let m = joined-mono a.n (array_words_in a.page.now) l.k (omega arith) in
    let s = c.array_size.ensures.0 ∙ ap (size l.k) c.count_at.ensures ∙
    core-size a.page.now a.core.now c.requires.4 l.k (omega arith) in
    omega (arith, array_size a.page.now l.k, s)

pub loop-k-preserved : goal.loop-k-preserved
loop-k-preserved c =
    let a = c.args in
    let l = c.loop-k in
    let s = c.array_size.ensures.0 ∙ ap (size l.k) c.count_at.ensures ∙
    core-size a.page.now a.core.now c.requires.4 l.k (omega arith) in (
      search rules,
      search rules,
      omega (arith, joined-grow (array_words_in a.page.now) l.k, array_size a.page.now l.k, s),
      c.put_words.ensures ∙
          section-more a.first l.k a.page.now _ _ a.target.now (omega arith)
          c.requires.1 l.invariant.1 l.invariant.3
          (rw l.invariant.2 at c.section_words-three.ensures),
    )

pub returns : goal.returns
returns c =
    let l = c.loop-k in let e : l.k ≡ c.args.n = omega arith in rw (← e) l.invariant.3
