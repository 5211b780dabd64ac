use Rattle.std.proofs.Common.{◌≡◌, length, arith, rules}
use Rattle.words.specs.Word.{joined}
use Rattle.text_lines.specs.Text.{space, value_byte, value_text}
use Rattle.text_lines.proofs.Lay.{wrote_none, wrote_then, wrote-more}
use Rattle.text_lines.proofs.Out.put_value.Goals as goal

pub loop-byte-init : goal.loop-byte-init
unfolding joined
loop-byte-init c = wrote_none c.args.self.now

pub loop-byte-preserved : goal.loop-byte-preserved
unfolding value_byte space
loop-byte-preserved c =
    let l = c.loop-byte in
    wrote-more (value_byte c.args.value.now) l.byte-index (search rules) l.invariant (wrote_then (search rules) c.put.ensures c.put_byte.ensures)

pub returns : goal.returns
unfolding value_text
returns c = let l = c.loop-byte in let e : l.byte-index ≡ length c.args.value.now = omega arith in rw e at l.invariant
