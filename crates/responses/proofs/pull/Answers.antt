use mathlib.Core.Path.{◌≡◌, sym, ap, ◌∙◌}
use lib.ListN.{length}
use Rattle.codes.proofs.Gates.{went, stood}
use Rattle.queue.specs.Queue.{Signed, waiting_signed, lists_of, signed_in, oldest_response, queue_holding}
use Rattle.queue.proofs.Holding.{requests_held, responses-after}
use Rattle.queue.proofs.Steps.{refuses, accepts}
use Rattle.response_rules.specs.Pull.{pull_code, pulled, pull_of}
use Rattle.response_rules.proofs.Pulls.{ready-length, ready-first}
use Rattle.response_rules.proofs.OnImages.{pull-passed}
use Rattle.responses.proofs.pull.Goals as goal

pub returns-in-Err : goal.returns-in-Err
unfolding pull_of lists_of
returns-in-Err c =
    let a = c.args in
    let b = a.buffer.now in
    let q = lists_of a.queue in
    let f = ready-first a.queue.responses c.oldest-response.result c.oldest-response.ensures in
    let g = stood (pull_code (length b) q) tt _ (sym (c.in-Err.ensures q
    (ready-length a.queue.responses ∙ sym (ap length c.waiting.ensures.0))
    (λ z. ap (λ (x : Signed). length x.signature) f ∙ sym c.signature_len-len.ensures.0))) in
    refuses (pull_code (length b) q) b q a.queue _ _ _ c.refused.ensures g.0 g.1

pub put_response-requires : goal.put_response-requires
unfolding lists_of
put_response-requires c =
    let a = c.args in
    let b = a.buffer.now in
    let q = lists_of a.queue in
    let f = ready-first a.queue.responses c.oldest-response.result c.oldest-response.ensures in
    let g = went (pull_code (length b) q) tt _ (sym (c.in-Ok.ensures q
    (ready-length a.queue.responses ∙ sym (ap length c.waiting.ensures.0))
    (λ z. ap (λ (x : Signed). length x.signature) f ∙ sym c.signature_len-len.ensures.0))) in
    rw f at (pull-passed (length b) q g.0).1

pub returns-in-Ok : goal.returns-in-Ok
unfolding pull_of pulled lists_of queue_holding
returns-in-Ok c =
    let a = c.args in
    let b = a.buffer.now in
    let q = lists_of a.queue in
    let f = ready-first a.queue.responses c.oldest-response.result c.oldest-response.ensures in
    let g = went (pull_code (length b) q) tt _ (sym (c.in-Ok.ensures q
    (ready-length a.queue.responses ∙ sym (ap length c.waiting.ensures.0))
    (λ z. ap (λ (x : Signed). length x.signature) f ∙ sym c.signature_len-len.ensures.0))) in
    rw (
      c.ok.ensures,
      c.after.ensures ∙ requests_held _,
      c.after-in-Ok.ensures ∙ responses-after 1 a.queue.responses,
      c.put_response.ensures,
      ← f,
    )
    (accepts (pull_code (length b) q) b q a.queue 0 0 _ _ g.0)
