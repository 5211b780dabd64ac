use Rattle.std.proofs.Common.{◌+◌, ◌∙◌, arith}
use Rattle.words.proofs.Read.{num-chunk, num-one, num-add, num-out}
use Rattle.words.proofs.u16_at.Goals as goal

pub returns-in-Some : goal.returns-in-Some
returns-in-Some c =
    (c.from.ensures ∙ num-chunk 1 c.args.at _ c.args.s.now c.in-Some.ensures.1 c.from_le_bytes.ensures, omega arith)

pub returns-in-None : goal.returns-in-None
returns-in-None c =
    let a = c.args in
    let h = c.in-None.ensures in
    (omega (arith, num-one a.at a.s.now, num-out 1 (a.at + 1) a.s.now (omega arith), num-add 1 1 a.at a.s.now), omega arith)
