use Rattle.std.proofs.Common.{◌∙◌, sym, arith}
use Rattle.big_words.proofs.Numbers.{big-chunk, whole_in, whole_out}
use Rattle.big_words.proofs.big_at.Goals as goal

pub returns-in-Some : goal.returns-in-Some
returns-in-Some c =
    let a = c.args in
    let h = c.in-Some.ensures in big-chunk a.at _ a.s.now (omega arith) h.1 c.from_be_bytes.ensures ∙ sym (whole_in a.at a.s.now (omega arith))

pub returns-in-None : goal.returns-in-None
returns-in-None c =
    let a = c.args in
    let h = c.in-None.ensures in sym (whole_out a.at a.s.now (omega arith))
