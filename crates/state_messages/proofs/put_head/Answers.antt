use Rattle.state_messages.proofs.Heads.{head-put}
use Rattle.state_messages.proofs.put_head.Goals as goal

pub returns : goal.returns
returns c =
    let a = c.args in
    rw (
      c.put_number-4.ensures,
      c.put_number-3.ensures,
      c.put_number-2.ensures,
      c.put_number.ensures,
    )
    (head-put a.a a.b a.c a.d a.s.now)
