use Prim.Native.Nat.{◌+◌, ◌≤◌, ◌<◌}
use mathlib.Core.Path.{◌≡◌, sym, ◌∙◌}
use mathlib.Core.Bool.{true, false}
use lib.ListN.{length}
use native.Mathlib.Omega.{arith}
use borrow.Author.Tests.{lt-ltb}
use Rattle.words.specs.Tests.{either}
use Rattle.words.proofs.Store.{bytes-in, lent_back}
use Rattle.tpm.specs.Comm.{closed_step, refused_step}
use Rattle.tpm.proofs.Chains.{passed, stopped}
use Rattle.tpm.proofs.Checks.{request-placed}
use Rattle.tpm.proofs.Steps.{comm-stops, comm-closes, comm-faults, comm-leaves}
use borrow.Author.Rules.{rules}
use Rattle.tpm.proofs.comm.Goals as goal

pub returns-in-Err : goal.returns-in-Err
unfolding refused_step
returns-in-Err c =
    let k = c.in-Err.ensures in
    rw k.code (sym (comm-stops _ _ _ _ _ _ (stopped k.code k.err)))

pub returns-then-operation-ne1 : goal.returns-then-operation-ne1
unfolding closed_step
returns-then-operation-ne1 c =
    let h = passed c.in_default.ensures.code in
    sym (comm-closes _ _ _ _ _ _ h (search rules))

pub returns-then-fault : goal.returns-then-fault
unfolding refused_step either
returns-then-fault c =
    let a = c.args in
    let f : a.fault ≡ true = search rules in
    let h = passed c.in_default.ensures.code in
    sym (comm-faults _ _ _ _ _ _ h (search rules) (simp f))

pub returns-then-outsize-written : goal.returns-then-outsize-written
unfolding refused_step either
returns-then-outsize-written c =
    let a = c.args in
    let f : a.fault ≡ false = search rules in
    let l : a.asked.outsize < length a.response.now = search rules in
    let h = passed c.in_default.ensures.code in
    sym (comm-faults _ _ _ _ _ _ h (search rules) (simp (f, lt-ltb a.asked.outsize (length a.response.now) l)))

pub slice_bounds-copy_by_words-count : goal.slice_bounds-copy_by_words-count
slice_bounds-copy_by_words-count c =
    let h = passed c.in_default.ensures.code in
    let p = request-placed _ _ _ h (search rules) in
    omega (arith, p.input.begins, p.output.begins)

pub slice_bounds-copy_by_words-start : goal.slice_bounds-copy_by_words-start
slice_bounds-copy_by_words-start c =
    let h = passed c.in_default.ensures.code in
    let p = request-placed _ _ _ h (search rules) in
    omega (arith, p.input.begins, p.output.begins)

pub returns : goal.returns
returns c =
    let a = c.args in
    let e : a.asked.operation ≡ 1 = search rules in
    let r : length a.response.now ≤ a.asked.outsize = search rules in
    let h = passed c.in_default.ensures.code in
    let p = request-placed _ _ _ h e in
    let m : a.asked.outbuffer + length a.response.now ≤ length a.memory.now = omega (arith, p.output.ends) in
    let w = lent_back a.asked.outbuffer a.response.now a.memory.now m ∙
    bytes-in a.asked.outbuffer a.response.now a.memory.now m in
    rw c.copy_by_words.ensures
    (comm-leaves _ _ _ _ _ _ _ w h e (search rules) r)
