use mathlib.Core.Path.{refl, ◌∙◌}
use native.Mathlib.Omega.{arith}
use Prim.Native.Nat.{◌+◌, ◌-◌}
use lib.ListN.{replicate}
use Rattle.queue_image.specs.Image.{held_in}
use Rattle.queue_image.proofs.Rows.{row_first, row_at, row-bytes}
use borrow.Author.Rules.{rules}
use Rattle.queue_image.proofs.ResponseRow.read.Goals as goal

pub returns : goal.returns
unfolding held_in
returns c =
    let a = c.args in
    let w = a.image.now in
    let first = row_first 16 a.at w (search rules) in
    let word1 = row_at 16 a.at 1 w (search rules) in
    let word2 = row_at 16 a.at 2 w (search rules) in
    let bytes = c.put_words.ensures ∙
    row-bytes 3 13 a.at w (replicate 104 0) (a.at + 16 - (a.at + 3)) (omega arith) (search rules) refl in
    cc
