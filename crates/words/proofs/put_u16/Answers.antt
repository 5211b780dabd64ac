use Rattle.std.proofs.Common.{◌∙◌, ap, List, ℕ, take}
use Rattle.words.specs.Word.{laid}
use Rattle.words.proofs.Read.{bytes-of_2}
use Rattle.words.proofs.put_u16.Goals as goal

pub returns : goal.returns
returns c =
    let a = c.args in
    c.put.ensures ∙ ap (λ (bs : List ℕ). laid a.at bs a.s.now) (ap (λ (bs : List ℕ). take 2 bs) c.to_le_bytes.ensures ∙ bytes-of_2 a.w)
