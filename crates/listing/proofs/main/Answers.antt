-- Each part of what `show` requires, said apart: the length of the input read, its room, the room of the text.
use Rattle.std.proofs.Common.{◌≤◌, ◌<◌, length, rules, arith}
use Rattle.text_lines.specs.Text.{listing_room}
use Rattle.listing.proofs.main.Goals as goal

pub show-written-requires : goal.show-written-requires
show-written-requires c = let a = c.read_full-n.auto.buf in (search rules, omega arith, omega arith)
