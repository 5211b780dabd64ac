use lib.ListN.{length}
use mathlib.Core.Path.{◌≡◌}
use Rattle.state_blobs_vectors.proofs.print_case.Given as goal

abbrev pub invariant-loop-call : goal.invariant-loop-call
invariant-loop-call l = length l.buffer ≡ 96
