use native.Mathlib.Omega.{arith}
use lib.ListN.{length-take}
use lib.Seq.{length-take-le}
use mathlib.Core.Path.{sym}
use borrow.Author.Rules.{rules}
use Rattle.runtime_vectors.proofs.print_case.Goals as goal

pub slice_bounds-print_lent-end : goal.slice_bounds-print_lent-end
slice_bounds-print_lent-end c = sym (length-take-le _ _ (search rules))

pub slice_bounds-print_lent-end-2 : goal.slice_bounds-print_lent-end-2
slice_bounds-print_lent-end-2 c = sym (length-take-le _ _ (search rules))

pub slice_bounds-print_lent-end-3 : goal.slice_bounds-print_lent-end-3
slice_bounds-print_lent-end-3 c = sym (length-take-le _ _ (search rules))

pub slice_bounds-print_lent-end-4 : goal.slice_bounds-print_lent-end-4
slice_bounds-print_lent-end-4 c = sym (length-take-le _ _ (search rules))

pub slice_bounds-print_lent-end-5 : goal.slice_bounds-print_lent-end-5
slice_bounds-print_lent-end-5 c = sym (length-take-le _ _ (search rules))

pub print_lent-requires : goal.print_lent-requires
print_lent-requires c = simp length-take (omega arith)
