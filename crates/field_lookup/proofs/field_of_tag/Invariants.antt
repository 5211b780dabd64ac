use Rattle.std.proofs.Common.{◌≡◌, length}
use Rattle.field_lookup.specs.Steps.{shown_from, place_tagged}
use Rattle.field_lookup.proofs.field_of_tag.Given as goal

abbrev pub invariant-loop-field : goal.invariant-loop-field
invariant-loop-field l =
    place_tagged l.tag (length (shown_from l.cursor l.page)) l.cursor l.page ≡ place_tagged l.tag (length (shown_from l.initial.cursor l.page)) l.initial.cursor l.page

abbrev pub decreases-loop-field : goal.decreases-loop-field
decreases-loop-field l = length (shown_from l.cursor l.page)
