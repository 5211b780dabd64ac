use Rattle.std.proofs.Common.{◌≡◌, ◌+◌}
use Rattle.writer_checks.specs.Steps.{sum_to}
use Rattle.writer_checks.proofs.fits.Given as goal

abbrev pub invariant-loop-len : goal.invariant-loop-len
invariant-loop-len l = l.left + sum_to l.len-index l.fn.n ≡ l.room
