use Rattle.std.proofs.Common.{◌∙◌, ap, List, ℕ}
use Rattle.words.specs.Word.{laid}
use Rattle.words.proofs.Read.{bytes-of_8}
use Rattle.words.proofs.put_word.Goals as goal

pub returns : goal.returns
returns c =
    let a = c.args in
    c.put.ensures ∙ ap (λ (bs : List ℕ). laid a.at bs a.s.now) (c.to_le_bytes.ensures ∙ bytes-of_8 a.w)
