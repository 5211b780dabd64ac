use lib.Seq.{length-take-le}
use mathlib.Core.Path.{sym}
use borrow.Author.Rules.{rules}
use Rattle.writer_vectors.proofs.print_case.Goals as goal

pub slice_bounds-print_written-end-2 : goal.slice_bounds-print_written-end-2
slice_bounds-print_written-end-2 c = sym (length-take-le _ _ (search rules))
