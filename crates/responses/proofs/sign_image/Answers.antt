use mathlib.Core.Path.{refl, sym}
use Rattle.codes.proofs.Gates.{went, stood}
use Rattle.queue_image.specs.Image.{lists_in}
use Rattle.response_rules.specs.Sign.{sign_code, signed_by}
use Rattle.response_rules.proofs.OnImages.{sign-passed, sign-image-refused, sign-image-done}
use Rattle.responses.proofs.sign_image.Goals as goal

pub returns-in-Err : goal.returns-in-Err
returns-in-Err c =
    let s = c.args.signature.now in
    let w = c.args.image.now in
    let g = stood (sign_code (lists_in w) s) tt _ (sym (c.in-Err.ensures (lists_in w)
    (sym c.requests_waiting-requests.ensures.0)
    (sym c.responses_waiting-responses.ensures.0))) in
    rw c.refused.ensures (sign-image-refused w s _ (sym g.0) g.1)

pub response_of-response-requires : goal.response_of-response-requires
response_of-response-requires c =
    let s = c.args.signature.now in
    let w = c.args.image.now in
    let g = went (sign_code (lists_in w) s) tt _ (sym (c.in-Ok.ensures (lists_in w)
    (sym c.requests_waiting-requests.ensures.0)
    (sym c.responses_waiting-responses.ensures.0))) in
    (sign-passed (lists_in w) s g.0).0

pub returns-in-Ok : goal.returns-in-Ok
unfolding signed_by
returns-in-Ok c =
    let s = c.args.signature.now in
    let w = c.args.image.now in
    let g = went (sign_code (lists_in w) s) tt _ (sym (c.in-Ok.ensures (lists_in w)
    (sym c.requests_waiting-requests.ensures.0)
    (sym c.responses_waiting-responses.ensures.0))) in
    rw (
      c.ok.ensures,
      c.remove_request.ensures,
      c.add_response.ensures,
      c.response_of-response.ensures,
    )
    (sign-image-done w s _ (sym g.0) refl
    c.front_request-oldest.result
    c.front_request-oldest.ensures)
