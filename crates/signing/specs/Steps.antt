-- For the step after the checks that the opcodes share: `told-served-on` (proofs/Signings.antt) proves `op_on` equal to `signing_on`
-- (OnImage.antt) if they pass. Assumes nothing.
use Rattle.std.specs.Prelude.{ℕ, List}
use Rattle.words.specs.Word.{part}
use Rattle.queue_image.specs.Image.{lists_in}
use Rattle.queue_image.specs.OnImage.{ImageStep, image_step}
use Rattle.signing.specs.Signing.{op_at}
use Rattle.signing.specs.OnImage.{image_done}
use Rattle.signing.specs.declared.Opcode.{Opcode}

-- an opcode on the buffer of `size` bytes at offset `at` of the page
unfoldable pub op_on : Opcode → ℕ → ℕ → List ℕ → List ℕ → List ℕ → ImageStep
op_on o at size page w key = image_step (op_at o at size page (lists_in w) key) (image_done o (part at size page) w) w
