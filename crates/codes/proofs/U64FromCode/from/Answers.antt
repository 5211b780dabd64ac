use mathlib.Core.Path.{sym, ap}
use Rattle.codes.specs.Codes.{extended, x0_of}
use Rattle.codes.proofs.U64FromCode.from.Goals as goal

pub returns-in-Ok : goal.returns-in-Ok
unfolding x0_of extended
returns-in-Ok c = sym (ap x0_of c.in-Ok.is)

pub returns-in-Unk : goal.returns-in-Unk
unfolding x0_of extended
returns-in-Unk c = sym (ap x0_of c.in-Unk.is)

pub returns-in-BadAddr : goal.returns-in-BadAddr
unfolding x0_of extended
returns-in-BadAddr c = sym (ap x0_of c.in-BadAddr.is)

pub returns-in-BadPas : goal.returns-in-BadPas
unfolding x0_of extended
returns-in-BadPas c = sym (ap x0_of c.in-BadPas.is)

pub returns-in-Inval : goal.returns-in-Inval
unfolding x0_of extended
returns-in-Inval c = sym (ap x0_of c.in-Inval.is)

pub returns-in-Again : goal.returns-in-Again
unfolding x0_of extended
returns-in-Again c = sym (ap x0_of c.in-Again.is)
