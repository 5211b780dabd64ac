use mathlib.Core.Path.{sym}
use lib.Seq.{length-take-le}
use borrow.Author.Rules.{rules}
use Rattle.state_blobs_vectors.proofs.print_call.Goals as goal

pub slice_bounds-make-end-3 : goal.slice_bounds-make-end-3
slice_bounds-make-end-3 c =
    sym (length-take-le c.length_at-room.result c.args.buffer.now (search rules))
