use mathlib.Core.Path.{◌≡◌}
use native.Mathlib.Omega.{arith}
use Prim.Native.Nat.{◌+◌, ◌-◌}
use Rattle.words.specs.Word.{part}
use Rattle.codes.specs.Codes.{answer_of}
use Rattle.queue.specs.Queue.{queue_next, exit_of}
use Rattle.signing.specs.Signing.{op_of, op_at}
use Rattle.signing.proofs.Buffers.{exit-back, exit-same}
use borrow.Author.Rules.{rules}
use Rattle.signing.proofs.serve.Goals as goal

pub returns-in-Push : goal.returns-in-Push
unfolding part op_at op_of
returns-in-Push c =
    let a = c.args in
    let e : a.at + a.size - a.at ≡ a.size = omega arith in
    rw c.in-Push.is (exit-same a.at a.size a.page.now a.queue _ _ (search rules)
    (rw e at c.push.ensures))

pub returns-in-Pull : goal.returns-in-Pull
unfolding part op_at op_of
returns-in-Pull c =
    let a = c.args in
    let e : a.at + a.size - a.at ≡ a.size = omega arith in
    rw (c.in-Pull.is, e)
    (exit-back a.at a.size a.page.now a.queue _ _ _ (search rules) (rw e at c.pull.ensures))

pub returns-in-Key : goal.returns-in-Key
unfolding part op_at op_of
returns-in-Key c =
    let a = c.args in
    let e : a.at + a.size - a.at ≡ a.size = omega arith in
    rw (c.in-Key.is, e)
    (exit-back a.at a.size a.page.now a.queue _ _ _ (search rules) (rw e at c.public_key.ensures))

pub returns-in-Other : goal.returns-in-Other
unfolding part op_at op_of exit_of queue_next answer_of
returns-in-Other c =
    let a = c.args in
    rw c.in-Other.is (exit-same a.at a.size a.page.now a.queue _ _ (search rules)
    (rw c.refused.ensures))
