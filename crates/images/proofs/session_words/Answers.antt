use Rattle.images.specs.Image.{session_words}
use Rattle.images.proofs.session_words.Goals as goal

pub returns-in-Idle : goal.returns-in-Idle
unfolding session_words
returns-in-Idle c = rw c.in-Idle.is

pub returns-in-Sending : goal.returns-in-Sending
unfolding session_words
returns-in-Sending c = rw c.in-Sending.is
