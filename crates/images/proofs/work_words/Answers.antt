use Rattle.images.specs.Image.{work_words}
use Rattle.images.proofs.work_words.Goals as goal

pub returns-in-Nothing : goal.returns-in-Nothing
unfolding work_words
returns-in-Nothing c = rw c.in-Nothing.is

pub returns-in-Reprogram : goal.returns-in-Reprogram
unfolding work_words
returns-in-Reprogram c = rw c.in-Reprogram.is
