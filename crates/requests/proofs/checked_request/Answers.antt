use mathlib.Core.Path.{◌≡◌, refl, ◌∙◌}
use Prim.Native.Nat.{◌≤◌}
use lib.ListN.{length}
use Rattle.codes.specs.declared.Code.TheVariants.{Inval, Again}
use Rattle.codes.proofs.Gates.{stops, goes}
use Rattle.request_rules.proofs.Pushes.{push-small, push-algorithm, push-hash, push-full, push_ok}
use borrow.Author.Rules.{rules}
use Rattle.requests.proofs.checked_request.Goals as goal

pub returns-then-buffer-lt-REQUEST_BYTES : goal.returns-then-buffer-lt-REQUEST_BYTES
returns-then-buffer-lt-REQUEST_BYTES c = λ q e. stops _ _ Inval (push-small c.args.buffer.now q (search rules)) refl

pub returns-then-request-ne-ALGORITHM_SECP384R1 : goal.returns-then-request-ne-ALGORITHM_SECP384R1
returns-then-request-ne-ALGORITHM_SECP384R1 c = λ q e.
    let r = c.request_of-request in
    stops _ _ Inval (push-algorithm c.args.buffer.now q (search rules) r.result r.ensures (search rules)) refl

pub returns-then-request-ne-HASH_SHA2_384 : goal.returns-then-request-ne-HASH_SHA2_384
returns-then-request-ne-HASH_SHA2_384 c = λ q e.
    let r = c.request_of-request in
    stops _ _ Inval (push-hash c.args.buffer.now q (search rules) r.result r.ensures (search rules) (search rules)) refl

pub returns-then-waiting-ge-PLACES : goal.returns-then-waiting-ge-PLACES
returns-then-waiting-ge-PLACES c = λ q e.
    let r = c.request_of-request in
    stops _ _ Again (push-full c.args.buffer.now q (search rules) r.result r.ensures (search rules) (search rules)
    (rw e (search rules))) refl

pub returns : goal.returns
returns c = λ q e.
    let r = c.request_of-request in
    goes _ _ _ (push_ok c.args.buffer.now q (search rules) r.result r.ensures (search rules) (search rules)
    (rw e (search rules))) r.ensures
