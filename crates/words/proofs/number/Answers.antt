use Rattle.std.proofs.Common.{◌≡◌, ◌∙◌, ◌*◌, ◌%◌, ◌^◌, arith, rules, reverse, bit_or, fold}
use Rattle.words.proofs.Bytes.{Bytes, number-folded}
use Rattle.words.proofs.number.Goals as goal

pub returns : goal.returns
returns c =
    let bs = c.args.bytes.now in
    let e : c.fold.result ≡ fold (λ n b. bit_or (n * 2 ^ 8 % 2 ^ 64) b) 0 (reverse bs) = search rules in
    let b : Bytes bs = λ i. omega (arith, c.type_inv.bytes i) in e ∙ number-folded bs b (omega arith)
