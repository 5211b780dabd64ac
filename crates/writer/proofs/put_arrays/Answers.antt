use Rattle.writer_checks.specs.Description.{four_lists}
use Rattle.writer.specs.Steps.{arrays_on}
use Rattle.std.proofs.Common.{rules}
use Rattle.writer.proofs.put_arrays.Goals as goal

pub returns : goal.returns
unfolding arrays_on four_lists
returns c = (search rules, cc)
