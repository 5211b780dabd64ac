use mathlib.Core.Path.{refl, sym}
use Rattle.codes.proofs.Gates.{went, stood}
use Rattle.queue_image.specs.Image.{lists_in}
use Rattle.request_rules.specs.Push.{request_of, push_code}
use Rattle.request_rules.proofs.OnImages.{push-image-refused, push-image-done}
use Rattle.requests.proofs.push_image.Goals as goal

-- Refused: `g` says that the code is the one of the definition, and not OK,
-- and then the definition leaves the image as it was.
pub returns-in-Err : goal.returns-in-Err
returns-in-Err c =
    let b = c.args.buffer.now in
    let w = c.args.image.now in
    let g = stood (push_code b (lists_in w)) (request_of b) _ (sym (c.in-Err.ensures (lists_in w) (sym c.requests_waiting.ensures.0))) in
    rw c.refused.ensures (push-image-refused b w _ (sym g.0) g.1)

pub returns-in-Ok : goal.returns-in-Ok
returns-in-Ok c =
    let b = c.args.buffer.now in
    let w = c.args.image.now in
    let g = went (push_code b (lists_in w)) (request_of b) _ (sym (c.in-Ok.ensures (lists_in w) (sym c.requests_waiting.ensures.0))) in
    rw (c.ok.ensures, c.add_request.ensures, g.1) (push-image-done b w _ (sym g.0) refl)
