use Rattle.std.proofs.Common.{arith}
use Rattle.vector_io.proofs.each_case.Goals as goal

pub slice_bounds-show-end : goal.slice_bounds-show-end
slice_bounds-show-end g c = omega (arith, c.load-length.ensures.0)
