use Rattle.std.proofs.Common.{◌≡◌, ◌-◌}
use Rattle.field_lookup.specs.Steps.{place_nth}
use Rattle.field_lookup.proofs.field_of.Given as goal

abbrev pub invariant-loop : goal.invariant-loop
invariant-loop l = place_nth (l.i - l.counter) l.cursor l.page ≡ place_nth l.i l.initial.cursor l.page
