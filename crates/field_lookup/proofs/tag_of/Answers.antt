use Rattle.std.proofs.Common.{sym, ap}
use Rattle.field_lookup.specs.Steps.{place_tag}
use Rattle.field_lookup.proofs.tag_of.Goals as goal

pub returns-in-Raw : goal.returns-in-Raw
unfolding place_tag
returns-in-Raw c = sym (ap place_tag c.in-Raw.is)

pub returns-in-Withdrawn : goal.returns-in-Withdrawn
unfolding place_tag
returns-in-Withdrawn c = sym (ap place_tag c.in-Withdrawn.is)
