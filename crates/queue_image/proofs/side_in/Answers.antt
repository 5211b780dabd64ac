use native.Mathlib.Omega.{arith}
use lib.ListN.{replicate}
use Rattle.queue_image.proofs.Rows.{read_none, read_more, read_all}
use borrow.Author.Rules.{rules}
use Rattle.queue_image.proofs.side_in.Goals as goal

pub loop-i-init : goal.loop-i-init
loop-i-init g c = let m = g.T.Row in (search rules, search rules, read_none m.of_row m.WORDS m.FIRST _ _)

pub loop-i-preserved : goal.loop-i-preserved
loop-i-preserved g c =
    let m = g.T.Row in
    let l = c.loop-i in
    let items = replicate 8 c.read-items.result in (
      search rules,
      l.invariant.1,
      read_more m.of_row m.WORDS m.FIRST c.args.image.now items l.i l.item-items c.read-items.result c.read.result
          l.invariant.2 (omega arith) (rw (c.FIRST-in-loop-i.ensures, c.WORDS.ensures) at c.read.ensures),
    )

pub returns : goal.returns
returns g c =
    let m = g.T.Row in
    let l = c.loop-i in
    let w = c.args.image.now in
    let items = replicate 8 c.read-items.result in
    rw (c.NUMBER.ensures, read_all m.of_row m.WORDS m.FIRST w items l.i l.item-items l.invariant.2 l.invariant.1 (omega arith))
