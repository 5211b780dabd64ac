-- A text written into a lent slice as far as it fits (LS6). Assumes nothing.
use Rattle.std.specs.Prelude.{ℕ, ◌≤◌, ◌≡◌, List, length}
use Rattle.text_lines.specs.Text.{lay_clipped, listing_room}

-- The text `vs` was written over `s` from its start, as far as it fits: the result is `t`. `r` is the length of the whole text, even if it does not
-- fit, and is at most `listing_room`.
pub record Listed (vs s : List ℕ) (r : ℕ) (t : List ℕ) : Type 0 where
  pub long : r ≡ length vs
  pub most : r ≤ listing_room
  pub same : length t ≡ length s
  pub bytes : t ≡ lay_clipped 0 vs s
