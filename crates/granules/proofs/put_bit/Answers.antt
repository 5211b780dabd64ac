use Rattle.realm_words.specs.Bits.{put_bit}
use Rattle.granules.proofs.put_bit.Goals as goal

pub returns : goal.returns
unfolding put_bit
returns c = rw c.with_bit.ensures
