use native.Mathlib.Omega.{arith}
use Rattle.queue_image.proofs.InPlace.{row-full, row-joined}
use borrow.Author.Rules.{rules}
use Rattle.queue_image.proofs.add_row.Goals as goal

pub returns-then-n-ge-PLACES : goal.returns-then-n-ge-PLACES
returns-then-n-ge-PLACES g c =
    let m = g.T.Row in
    let a = c.args in
    row-full (record { number = m.NUMBER; start = m.FIRST; width = m.WORDS }) (m.as_row a.entry) a.image.now (omega (arith, (rw c.NUMBER.ensures at c.rows_waiting-n.ensures.0)))

pub returns : goal.returns
returns g c =
    let m = g.T.Row in
    let a = c.args in
    let n = c.rows_waiting-n in
    rw c.NUMBER-2.ensures (row-joined (record { number = m.NUMBER; start = m.FIRST; width = m.WORDS }) (m.as_row a.entry) a.image.now n.result (rw c.NUMBER.ensures at n.ensures.0) (omega arith) _
    (rw (c.FIRST.ensures, c.WORDS.ensures) at c.put.ensures) (search rules))
