use mathlib.Core.Path.{◌≡◌, sym, ◌∙◌}
use native.Mathlib.Omega.{arith}
use lib.ListN.{length}
use lib.Seq.{length-take-le}
use Rattle.response_rules.proofs.Laid.{response-laid}
use borrow.Author.Rules.{rules}
use Rattle.responses.proofs.put_response.Goals as goal

pub slice_bounds-signature-end : goal.slice_bounds-signature-end
slice_bounds-signature-end c =
    let l : length c.args.response.signature ≡ 104 = search rules in
    omega (arith, c.signature_len-n.ensures.1)

pub slice_bounds-copy-end-2 : goal.slice_bounds-copy-end-2
slice_bounds-copy-end-2 c =
    let r = c.args.response in
    let l : length r.signature ≡ 104 = search rules in
    sym (length-take-le c.signature_len-n.result r.signature
    (omega (arith, c.signature_len-n.ensures.1)))

pub returns : goal.returns
returns c =
    let a = c.args in
    rw c.copy.ensures (response-laid a.buffer.now a.response
    c.signature_len-n.result c.signature_len-n.ensures.0 (search rules) _
    (c.put_u16.ensures ∙
    rw (
      c.put_word-2.ensures,
      c.put_word.ensures,
    )))
