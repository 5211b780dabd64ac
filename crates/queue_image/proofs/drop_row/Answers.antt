use Prim.Native.Nat.{◌*◌, ◌+◌, ◌≤◌}
use mathlib.Core.Path.{◌∙◌}
use native.Mathlib.Omega.{arith}
use lib.ListN.{length-set}
use Rattle.queue_image.proofs.InPlace.{up_to, row_room, row-dropped}
use borrow.Author.Rules.{rules}
use Rattle.queue_image.proofs.drop_row.Goals as goal

pub overflow_mul-n : goal.overflow_mul-n
overflow_mul-n c =
    let a = c.args in
    let r : a.width + a.width * c.rows_behind-behind.result ≤ a.width * 8 = row_room a.width c.rows_behind-behind.result
    c.rows_behind-behind.ensures.1 in
    search rules

pub move_up-requires : goal.move_up-requires
move_up-requires c =
    let a = c.args in
    let n = c.rows_behind-behind in
    let r : a.width + a.width * n.result ≤ a.width * 8 = row_room a.width n.result n.ensures.1 in
    omega arith

pub overflow_add-start : goal.overflow_add-start
overflow_add-start c =
    let a = c.args in
    let n = c.rows_behind-behind in
    let r : a.width + a.width * n.result ≤ a.width * 8 = row_room a.width n.result n.ensures.1 in
    search rules

pub clear-requires : goal.clear-requires
clear-requires c =
    let a = c.args in
    let n = c.rows_behind-behind in
    let r : a.width + a.width * n.result ≤ a.width * 8 = row_room a.width n.result n.ensures.1 in
    omega arith

pub shape_of-image : goal.shape_of-image
shape_of-image c = simp length-set (c.image-2-1.given ∙ c.image-1.given)

pub returns : goal.returns
unfolding up_to
returns c =
    let a = c.args in
    let n = c.rows_behind-behind in
    row-dropped (record { number = a.number; start = a.start; width = a.width }) a.image.now n.result n.ensures.0
    (search rules) (search rules) _ _ c.move_up.ensures
    c.clear.ensures (search rules)
