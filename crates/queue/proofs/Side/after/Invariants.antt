use Rattle.std.proofs.Common.{◌≡◌, ◌≤◌, length, drop, take, map}
use Rattle.queue.specs.Queue.{waiting, side_of}
use Rattle.queue.proofs.Side.after.Given as goal

abbrev pub invariant-loop-entry : goal.invariant-loop-entry
invariant-loop-entry g l =
    (l.side ≡ side_of g.T.Entry.free (map g.T.Entry.cleared (take l.entry-index l.entry-items))) × (length l.entry-items ≤ 8) ×
    (l.entry-items ≡ drop l.gone (waiting l.self))
