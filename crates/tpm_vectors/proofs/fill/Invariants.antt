use Rattle.std.proofs.Common.{◌<◌}
use Rattle.tpm_vectors.proofs.fill.Given as goal

abbrev pub invariant-loop-byte : goal.invariant-loop-byte
invariant-loop-byte l = l.x < 65521
