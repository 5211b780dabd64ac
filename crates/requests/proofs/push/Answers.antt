use mathlib.Core.Path.{sym, ap, ◌∙◌}
use Prim.Native.Nat.{◌<◌}
use lib.ListN.{length}
use Rattle.codes.proofs.Gates.{went, stood}
use Rattle.queue.specs.Queue.{waiting, lists_of, queue_holding}
use Rattle.queue.proofs.Holding.{requests_held, responses-after}
use Rattle.queue.proofs.Sides.{joined-room}
use Rattle.queue.proofs.Steps.{refuses, accepts}
use Rattle.request_rules.specs.Push.{request_of, push_code, pushed, push_of}
use Rattle.request_rules.proofs.OnImages.{push-passed}
use Rattle.requests.proofs.push.Goals as goal

pub returns-in-Err : goal.returns-in-Err
unfolding push_of lists_of
returns-in-Err c =
    let a = c.args in
    let b = a.buffer.now in
    let q = lists_of a.queue in
    let g = stood (push_code b q) (request_of b) _ (sym (c.in-Err.ensures q (sym (ap length c.waiting.ensures.0)))) in
    refuses (push_code b q) b q a.queue _ _ _ c.refused.ensures g.0 g.1

pub returns-in-Ok : goal.returns-in-Ok
unfolding push_of pushed lists_of queue_holding
returns-in-Ok c =
    let a = c.args in
    let b = a.buffer.now in
    let q = lists_of a.queue in
    let g = went (push_code b q) (request_of b) _ (sym (c.in-Ok.ensures q (sym (ap length c.waiting.ensures.0)))) in
    let k : length (waiting a.queue.requests) < 8 = (push-passed b q g.0).1 in
    rw (
      c.ok.ensures,
      c.joined.ensures ∙ requests_held _,
      c.after.ensures ∙ responses-after 0 a.queue.responses,
      g.1,
      joined-room (waiting a.queue.requests) (request_of b) k,
    ) (accepts (push_code b q) b q a.queue 0 0 _ _ g.0)
