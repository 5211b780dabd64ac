use Prim.Native.Nat.{◌+◌}
use native.Mathlib.Omega.{arith}
use Rattle.words.proofs.Read.{num-one, num-add}
use Rattle.words.proofs.read_u64.Goals as goal

pub returns : goal.returns
returns c =
    let a = c.args in
    omega (
      arith,
      num-one a.at a.s.now,
      num-one (a.at + 1) a.s.now,
      num-add 1 1 a.at a.s.now,
      num-one (a.at + 2) a.s.now,
      num-add 2 1 a.at a.s.now,
      num-one (a.at + 3) a.s.now,
      num-add 3 1 a.at a.s.now,
      num-one (a.at + 4) a.s.now,
      num-add 4 1 a.at a.s.now,
      num-one (a.at + 5) a.s.now,
      num-add 5 1 a.at a.s.now,
      num-one (a.at + 6) a.s.now,
      num-add 6 1 a.at a.s.now,
      num-one (a.at + 7) a.s.now,
      num-add 7 1 a.at a.s.now,
    )
