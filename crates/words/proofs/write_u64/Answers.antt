use Rattle.words.proofs.Store.{put-add}
use native.Mathlib.Omega.{arith}
use Rattle.words.proofs.write_u64.Goals as goal

pub returns : goal.returns
returns c =
    let a = c.args in
    rw (c.write_u32-2.ensures, c.write_u32.ensures)
    (put-add 4 4 a.s.now a.at a.w (omega arith))
