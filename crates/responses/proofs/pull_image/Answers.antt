use mathlib.Core.Path.{refl, sym, ap, ◌∙◌}
use lib.ListN.{length}
use Rattle.codes.proofs.Gates.{went, stood}
use Rattle.queue.specs.Queue.{Signed}
use Rattle.queue_image.specs.Image.{response_in, lists_in}
use Rattle.queue_image.proofs.InPlace.{front-response-is}
use Rattle.response_rules.specs.Pull.{pull_code}
use Rattle.response_rules.proofs.OnImages.{pull-image-refused, pull-room, pull-image-done}
use Rattle.responses.proofs.pull_image.Goals as goal

pub returns-in-Err : goal.returns-in-Err
returns-in-Err c =
    let b = c.args.buffer.now in
    let w = c.args.image.now in
    let g = stood (pull_code (length b) (lists_in w)) tt _ (sym (c.in-Err.ensures (lists_in w)
    (sym c.responses_waiting-waiting.ensures.0)
    (λ z. ap (λ (r : Signed). length r.signature) (front-response-is w z) ∙ sym c.front_len-len.ensures.0))) in
    rw c.refused.ensures (pull-image-refused b w _ (sym g.0) g.1)

pub put_response-requires : goal.put_response-requires
unfolding response_in
put_response-requires c =
    let b = c.args.buffer.now in
    let w = c.args.image.now in
    let g = went (pull_code (length b) (lists_in w)) tt _ (sym (c.in-Ok.ensures (lists_in w)
    (sym c.responses_waiting-waiting.ensures.0)
    (λ z. ap (λ (r : Signed). length r.signature) (front-response-is w z) ∙ sym c.front_len-len.ensures.0))) in
    rw c.front_response.ensures (pull-room b w _ (sym g.0) refl)

pub returns-in-Ok : goal.returns-in-Ok
unfolding response_in
returns-in-Ok c =
    let b = c.args.buffer.now in
    let w = c.args.image.now in
    let g = went (pull_code (length b) (lists_in w)) tt _ (sym (c.in-Ok.ensures (lists_in w)
    (sym c.responses_waiting-waiting.ensures.0)
    (λ z. ap (λ (r : Signed). length r.signature) (front-response-is w z) ∙ sym c.front_len-len.ensures.0))) in
    rw (
      c.ok.ensures,
      c.remove_response.ensures,
      c.put_response.ensures,
      c.front_response.ensures,
    )
    (pull-image-done b w _ (sym g.0) refl)
