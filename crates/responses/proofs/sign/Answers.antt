use mathlib.Core.Path.{sym, ap, ◌∙◌}
use Prim.Native.Nat.{◌<◌}
use lib.ListN.{length}
use Rattle.codes.proofs.Gates.{went, stood}
use Rattle.queue.specs.Queue.{waiting, waiting_signed, lists_of, queue_holding, oldest_request}
use Rattle.queue.proofs.Holding.{requests_held, responses-joined}
use Rattle.queue.proofs.Sides.{joined-room}
use Rattle.response_rules.specs.Sign.{sign_code, signed, signed_by}
use Rattle.response_rules.proofs.Pulls.{ready-length}
use Rattle.response_rules.proofs.Signs.{sign-refuses, sign-accepts}
use Rattle.response_rules.proofs.OnImages.{sign-passed}
use Rattle.responses.proofs.sign.Goals as goal

pub returns-in-Err : goal.returns-in-Err
unfolding lists_of
returns-in-Err c =
    let a = c.args in
    let q = lists_of a.queue in
    let g = stood (sign_code q a.signature.now) tt _ (sym (c.in-Err.ensures q (sym (ap length c.waiting-requests.ensures.0))
    (ready-length a.queue.responses ∙ sym (ap length c.waiting-responses.ensures.0)))) in
    sign-refuses q a.signature.now a.queue _ _ c.refused.ensures g.0 g.1

pub response_of-response-requires : goal.response_of-response-requires
unfolding lists_of
response_of-response-requires c =
    let a = c.args in
    let q = lists_of a.queue in
    let g = went (sign_code q a.signature.now) tt _ (sym (c.in-Ok.ensures q (sym (ap length c.waiting-requests.ensures.0))
    (ready-length a.queue.responses ∙ sym (ap length c.waiting-responses.ensures.0)))) in
    (sign-passed q a.signature.now g.0).0

pub returns-in-Ok : goal.returns-in-Ok
unfolding lists_of signed signed_by queue_holding waiting oldest_request
returns-in-Ok c =
    let a = c.args in
    let q = lists_of a.queue in
    let g = went (sign_code q a.signature.now) tt _ (sym (c.in-Ok.ensures q (sym (ap length c.waiting-requests.ensures.0))
    (ready-length a.queue.responses ∙ sym (ap length c.waiting-responses.ensures.0)))) in
    let l : length (waiting_signed a.queue.responses) < 8 = (sign-passed q a.signature.now g.0).2 in
    rw (
      c.ok.ensures,
      c.after.ensures ∙ requests_held _,
      c.joined.ensures ∙ responses-joined a.queue.responses _,
      joined-room
          (waiting_signed a.queue.responses) _ l,
      c.response_of-response.ensures,
      c.oldest-oldest.ensures,
    )
    (sign-accepts q a.signature.now a.queue g.0)
