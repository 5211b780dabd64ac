use Rattle.std.proofs.Common.{◌∙◌, ap, List, ℕ}
use Rattle.words.specs.Word.{laid}
use Rattle.big_words.proofs.Numbers.{bytes-of}
use Rattle.big_words.proofs.put_big.Goals as goal

pub returns : goal.returns
returns c =
    let a = c.args in c.put.ensures ∙ ap (λ (bs : List ℕ). laid a.at bs a.s.now) (c.to_be_bytes.ensures ∙ bytes-of a.w)
