-- 0xC40001B5 on the queue's image (CM7, CE4). Assumes nothing.
use Rattle.std.specs.Prelude.{ℕ, List}
use Rattle.words.specs.Word.{part}
use Rattle.boot.specs.declared.Record.{Record}
use Rattle.codes.specs.Codes.{boot_params}
use Rattle.buffer_check.specs.Range.{place_of}
use Rattle.queue_image.specs.Image.{lists_in}
use Rattle.queue_image.specs.Sides.{response_side, row_dropped}
use Rattle.queue_image.specs.OnImage.{ImageStep, image_step}
use Rattle.request_rules.specs.OnImage.{push_done}
use Rattle.signing.specs.Signing.{opcode_of, signing_of}
use Rattle.signing.specs.declared.Opcode.{Opcode}
use Rattle.signing.specs.declared.Opcode.TheVariants.{Push, Pull, Key, Other}

-- what an accepted call with the buffer b leaves of the image w: push changes the requests, pull the responses, key nothing
unfoldable pub image_done : Opcode → List ℕ → List ℕ → List ℕ
image_done Push b w = push_done b w
image_done Pull b w = row_dropped response_side w
image_done Key b w = w
image_done Other b w = w

-- what an accepted command leaves of the image w, for the buffer of `size` bytes at pa
unfoldable pub signing_done : (state : Record) (page image : List ℕ) (opcode pa size : ℕ) → List ℕ
signing_done r page w op pa size = image_done (opcode_of op) (part (place_of (boot_params r) pa) size page) w

-- the token signing command on an image
unfoldable pub signing_on : (state : Record) (page image key : List ℕ) (opcode pa size curve : ℕ) → ImageStep
signing_on r page w key op pa size curve = image_step (signing_of r page (lists_in w) key op pa size curve) (signing_done r page w op pa size) w
