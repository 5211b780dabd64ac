use Rattle.std.proofs.Common.{arith}
use Rattle.queue.proofs.Holding.{side-full, side-joined}
use Rattle.queue.specs.Queue.{waiting}
use Rattle.queue.proofs.Side.joined.Goals as goal

pub returns-then-side-lt-PLACES : goal.returns-then-side-lt-PLACES
returns-then-side-lt-PLACES g c =
    let m = g.T.Entry in
    let a = c.args in
    side-joined m.free m.cleared (waiting a.self.now) c.after-side.result c.after-side.ensures a.entry _ c.cleared.ensures c.if-side-lt-PLACES.true

pub returns-else-side-lt-PLACES : goal.returns-else-side-lt-PLACES
returns-else-side-lt-PLACES g c =
    let m = g.T.Entry in
    let a = c.args in
    side-full m.free m.cleared (waiting a.self.now) c.after-side.result c.after-side.ensures a.entry (omega (arith, c.if-side-lt-PLACES.false))
