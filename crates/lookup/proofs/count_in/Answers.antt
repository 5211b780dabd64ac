use Rattle.lookup.specs.Fast.{count_of}
use Rattle.lookup.proofs.count_in.Goals as goal

pub returns : goal.returns
unfolding count_of
returns c = rw (c.entry_words.ensures.0, c.part_of-array.ensures.result_value, c.place_in.ensures)
