-- What the program writes for an input (LS1). Assumes nothing.
use Rattle.std.specs.Prelude.{ℕ, ◌≡◌, List, length, take}
use Rattle.text_lines.specs.Text.{printed}

-- Reading stops when the room is full or the input ends. So the `n` bytes read into the room are the first min(room, input) bytes of the input. For
-- every such input, the first `r` bytes of `t` are the whole output.
abbrev pub PrintsAll : List ℕ → ℕ → ℕ → List ℕ → Type 0
PrintsAll room n r t = (input : List ℕ) → take n room ≡ take (length room) input → take r t ≡ printed input
