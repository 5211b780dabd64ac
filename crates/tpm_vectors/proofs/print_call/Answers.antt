use Rattle.std.proofs.Common.{sym, length-take-le, rules}
use Rattle.tpm_vectors.proofs.print_call.Goals as goal

pub slice_bounds-fill-end-2 : goal.slice_bounds-fill-end-2
slice_bounds-fill-end-2 c = sym (length-take-le _ _ (search rules))

pub slice_bounds-comm-end-2 : goal.slice_bounds-comm-end-2
slice_bounds-comm-end-2 c = sym (length-take-le _ _ (search rules))
