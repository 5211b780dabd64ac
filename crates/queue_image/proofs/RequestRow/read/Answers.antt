use mathlib.Core.Path.{refl, ◌∙◌}
use native.Mathlib.Omega.{arith}
use Prim.Native.Nat.{◌+◌, ◌-◌}
use lib.ListN.{replicate}
use Rattle.queue_image.specs.Image.{request_in}
use Rattle.queue_image.proofs.Rows.{row_first, row_at, row-bytes}
use borrow.Author.Rules.{rules}
use Rattle.queue_image.proofs.RequestRow.read.Goals as goal

pub returns : goal.returns
unfolding request_in
returns c =
    let a = c.args in
    let w = a.image.now in
    let first = row_first 10 a.at w (search rules) in
    let word1 = row_at 10 a.at 1 w (search rules) in
    let word2 = row_at 10 a.at 2 w (search rules) in
    let word3 = row_at 10 a.at 3 w (search rules) in
    let bytes = c.put_words.ensures ∙
    row-bytes 4 6 a.at w (replicate 48 0) (a.at + 10 - (a.at + 4)) (omega arith) (search rules) refl in
    cc
