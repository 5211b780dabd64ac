use Rattle.std.proofs.Common.{◌≡◌, sym, arith, le-leb}
use borrow.Author.Tests.{lt-leb}
use Rattle.writer_checks.specs.Steps.{sum_to}
use Rattle.writer_checks.proofs.Described.{to_none, to-more, to-over}
use Rattle.writer_checks.proofs.fits.Goals as goal

pub loop-len-init : goal.loop-len-init
loop-len-init c = let a = c.args in omega (arith, to_none a.n)

pub returns-then-left-len : goal.returns-then-left-len
returns-then-left-len c =
    let a = c.args in
    let l = c.loop-len in
    sym (lt-leb (sum_to 4 a.n) a.room (to-over l.len-index l.left a.room a.n (omega arith) l.invariant c.if-left-len.true))

pub loop-len-preserved : goal.loop-len-preserved
loop-len-preserved c = let a = c.args in omega (arith, to-more c.loop-len.len-index a.n)

pub returns : goal.returns
returns c =
    let a = c.args in
    let l = c.loop-len in
    let e : l.len-index ≡ 4 = omega arith in
    let s : sum_to l.len-index a.n ≡ sum_to 4 a.n = rw e in
    sym (le-leb (sum_to 4 a.n) a.room (omega arith))
