use Rattle.std.proofs.Common.{◌≡◌, ◌∙◌, ap, arith, rules, slice_index_or, List, ℕ}
use Rattle.words.specs.Word.{joined}
use Rattle.words.proofs.Read.{bytes-of_8}
use Rattle.text_lines.specs.Text.{byte_text, name_byte, name_text}
use Rattle.text_lines.proofs.Lay.{wrote_none, wrote-same, wrote-more}
use Rattle.text_lines.proofs.Out.put_name.Goals as goal

pub loop-byte-init : goal.loop-byte-init
unfolding joined
loop-byte-init c = wrote_none c.args.self.now

pub loop-byte-preserved : goal.loop-byte-preserved
unfolding name_byte
loop-byte-preserved c =
    let a = c.args in
    let l = c.loop-byte in
    let e = ap (λ (bs : List ℕ). byte_text (slice_index_or bs l.byte-index 0)) (c.to_le_bytes-byte-items.ensures ∙ bytes-of_8 a.w) in
    wrote-more (name_byte a.w) l.byte-index (search rules) l.invariant (wrote-same e c.put_byte.ensures)

pub returns : goal.returns
unfolding name_text
returns c = let l = c.loop-byte in let e : l.byte-index ≡ 8 = omega arith in rw e at l.invariant
