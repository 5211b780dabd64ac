use mathlib.Core.Path.{refl}
use lib.ListN.{length}
use Rattle.codes.specs.Codes.{boot_params}
use Rattle.buffer_check.specs.Range.{place_of}
use Rattle.queue.specs.Queue.{lists_of}
use Rattle.queue.proofs.Steps.{refuses}
use Rattle.signing.specs.Signing.{opcode_of, shared_code, op_at, signing_of}
use Rattle.signing.proofs.Signings.{told-stop, told-room, told-served}
use Rattle.signing.proofs.token_signing.Goals as goal

pub serve-requires : goal.serve-requires
serve-requires c =
    let a = c.args in
    told-room a.state a.page.now a.opcode a.pa a.size a.curve _
    (rw c.from-opcode.ensures at c.in-Ok.ensures) _ refl

pub returns-in-Err : goal.returns-in-Err
unfolding signing_of
returns-in-Err c =
    let a = c.args in
    let g = told-stop a.state a.page.now a.opcode a.pa a.size a.curve _
    (rw c.from-opcode.ensures at c.in-Err.ensures) _ refl in
    refuses (shared_code a.state (length a.page.now) (opcode_of a.opcode) a.pa a.size a.curve) a.page.now
    (lists_of a.queue) a.queue (op_at (opcode_of a.opcode) (place_of (boot_params a.state) a.pa) a.size a.page.now
    (lists_of a.queue) a.key.now) _ _ c.refused.ensures g.0 g.1

pub returns-in-Ok : goal.returns-in-Ok
returns-in-Ok c =
    let a = c.args in
    told-served a.state a.page.now a.opcode a.pa a.size a.curve _
    (rw c.from-opcode.ensures at c.in-Ok.ensures) _
    refl _ c.from-opcode.ensures a.queue
    a.key.now _ c.serve.ensures
