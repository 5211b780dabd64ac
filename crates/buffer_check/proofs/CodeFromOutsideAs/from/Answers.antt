use mathlib.Core.Path.{sym, ap}
use Rattle.buffer_check.specs.Range.{outside_code}
use Rattle.buffer_check.proofs.CodeFromOutsideAs.from.Goals as goal

pub returns-in-BadAddress : goal.returns-in-BadAddress
unfolding outside_code
returns-in-BadAddress c = sym (ap outside_code c.in-BadAddress.is)

pub returns-in-Invalid : goal.returns-in-Invalid
unfolding outside_code
returns-in-Invalid c = sym (ap outside_code c.in-Invalid.is)
