use Rattle.text_lines.specs.Text.{zero_x, hex_text}
use Rattle.text_lines.proofs.Lay.{wrote-same, wrote_then}
use Rattle.text_lines.proofs.Numbers.{hex-put}
use borrow.Author.Rules.{rules}
use native.Mathlib.Omega.{arith}
use Rattle.text_lines.proofs.Out.put_hex.Goals as goal

pub returns : goal.returns
unfolding zero_x hex_text
returns c =
    wrote_then (search rules) c.put.ensures
    (wrote-same (hex-put 16 _ _ _ (omega arith) c.hex-k.ensures.len c.hex-k.ensures.digits) c.put-2.ensures)
