use Rattle.granule_rules.proofs.Moving.{moved-ok, moved-err}
use Rattle.granules.proofs.answered.Goals as goal

pub returns-in-Ok : goal.returns-in-Ok
returns-in-Ok c = λ bytes ws m p h. rw c.ok.ensures (moved-ok m bytes ws p (rw c.in-Ok.is at h))

pub returns-in-Err : goal.returns-in-Err
returns-in-Err c = λ bytes ws m p h. rw c.refused.ensures (moved-err m bytes ws p _ (rw c.in-Err.is at h)).0
