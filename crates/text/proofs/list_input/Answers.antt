use mathlib.Core.Path.{refl}
use Rattle.text_lines.proofs.Lay.{laid-same, listed}
use Rattle.text.proofs.Room.{printed-fits}
use Rattle.text_lines.proofs.Parts.{input-refused, input-read}
use borrow.Author.Rules.{rules}
use native.Mathlib.Omega.{arith}
use Rattle.text.proofs.list_input.Goals as goal

pub returns-then-input-ne4104 : goal.returns-then-input-ne4104
returns-then-input-ne4104 c =
    let a = c.args in
    let w = c.put_code.ensures.laid (omega arith) in
    listed (printed-fits a.input.now (λ i. omega (arith, c.type_inv.input i))) (laid-same (input-refused a.input.now (search rules)) (search rules))

pub returns : goal.returns
returns c =
    rw (← input-read c.args.input.now _ _ (search rules) c.word_at.ensures refl)
    c.list.ensures
