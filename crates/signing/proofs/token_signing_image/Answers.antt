use mathlib.Core.Path.{refl}
use lib.ListN.{length}
use Rattle.words.specs.Word.{part}
use Rattle.codes.specs.Codes.{boot_params}
use Rattle.buffer_check.specs.Range.{place_of}
use Rattle.queue_image.specs.Image.{lists_in}
use Rattle.queue_image.proofs.Steps.{image-refuses}
use Rattle.signing.specs.Signing.{opcode_of, shared_code, op_at, signing_of}
use Rattle.signing.specs.OnImage.{image_done, signing_done, signing_on}
use Rattle.signing.proofs.Signings.{told-stop, told-room, told-served-on}
use Rattle.signing.proofs.token_signing_image.Goals as goal

pub serve_image-requires : goal.serve_image-requires
serve_image-requires c =
    let a = c.args in
    told-room a.state a.page.now a.opcode a.pa a.size a.curve _
    (rw c.from-opcode.ensures at c.in-Ok.ensures) _ refl

pub returns-in-Err : goal.returns-in-Err
unfolding signing_on signing_done signing_of
returns-in-Err c =
    let a = c.args in
    let g = told-stop a.state a.page.now a.opcode a.pa a.size a.curve _
    (rw c.from-opcode.ensures at c.in-Err.ensures) _ refl in
    rw (c.refused.ensures, ← g.0) (image-refuses (shared_code a.state (length a.page.now) (opcode_of a.opcode) a.pa
    a.size
    a.curve) (op_at (opcode_of a.opcode) (place_of (boot_params a.state) a.pa) a.size a.page.now (lists_in a.image.now)
    a.key.now) a.page.now (lists_in a.image.now)
    (image_done (opcode_of a.opcode) (part (place_of (boot_params a.state) a.pa) a.size a.page.now) a.image.now)
    a.image.now
    (rw (← g.0) at g.1))

pub returns-in-Ok : goal.returns-in-Ok
returns-in-Ok c =
    let a = c.args in
    told-served-on a.state a.page.now a.opcode a.pa a.size a.curve _
    (rw c.from-opcode.ensures at c.in-Ok.ensures) _
    refl _ c.from-opcode.ensures
    a.image.now a.key.now _ c.serve_image.ensures
