use Rattle.std.proofs.Common.{ap, arith, rules}
use Rattle.text_lines.specs.Text.{listing_of}
use Rattle.text_lines.proofs.Lay.{laid-same, listed}
use Rattle.text.proofs.Room.{listing-fits}
use Rattle.text.proofs.list.Goals as goal

pub returns : goal.returns
returns c =
    let a = c.args in
    let w = c.put_reading.ensures.laid (omega arith) in
    listed (listing-fits a.edition a.base a.page.now (λ i. omega (arith, c.type_inv.page i)))
    (laid-same (ap listing_of c.read.ensures.result_value) (search rules))
