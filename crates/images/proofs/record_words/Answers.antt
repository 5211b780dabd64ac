use Rattle.images.specs.Image.{record_words}
use Rattle.images.proofs.record_words.Goals as goal

pub returns-in-Fresh : goal.returns-in-Fresh
unfolding record_words
returns-in-Fresh c = rw c.in-Fresh.is

pub returns-in-Up : goal.returns-in-Up
unfolding record_words
returns-in-Up c = rw c.in-Up.is

pub returns-in-Closed : goal.returns-in-Closed
unfolding record_words
returns-in-Closed c = rw c.in-Closed.is
