use Rattle.std.proofs.Common.{◌∙◌, arith}
use Rattle.words.proofs.Read.{num-chunk, num-short}
use Rattle.words.proofs.u32_at.Goals as goal

pub returns-in-Some : goal.returns-in-Some
returns-in-Some c = c.from.ensures ∙ num-chunk 3 c.args.at _ c.args.s.now c.in-Some.ensures.1 c.from_le_bytes.ensures

pub returns-in-None : goal.returns-in-None
returns-in-None c =
    let a = c.args in
    let h = c.in-None.ensures in
    c.tail_at.ensures ∙ num-short 8 4 a.at a.s.now (omega arith) (omega arith)
