use Rattle.text_lines.specs.Text.{byte_text}
use Rattle.text_lines.proofs.Lay.{wrote-same}
use Rattle.text_lines.proofs.Numbers.{hex-put}
use native.Mathlib.Omega.{arith}
use Rattle.text_lines.proofs.Out.put_byte.Goals as goal

pub returns : goal.returns
unfolding byte_text
returns c =
    wrote-same (hex-put 2 _ _ _ (omega arith) c.hex-k.ensures.len
    c.hex-k.ensures.digits) c.put.ensures
