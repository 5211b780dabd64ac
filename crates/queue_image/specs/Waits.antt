-- Definitions for the theorems on the image's two sides. Assumes nothing.
use Rattle.std.specs.Prelude.{ℕ, ◌*◌, ◌≡◌, List, ◌∷◌, take, drop, get_or}
use Rattle.words.specs.Word.{part}
use Rattle.queue_image.specs.Image.{rows}
use Rattle.queue_image.specs.Sides.{Side, request_side, response_side}

-- a side s and the other side o
pub data Beside : Side → Side → Type 0 where
  of_requests : Beside request_side response_side
  of_responses : Beside response_side request_side

-- the rows that wait on a side: those that `lists_in` reads
unfoldable pub waiting_rows : Side → List ℕ → List (List ℕ)
waiting_rows s w = take (get_or w s.number 0) (rows s.width 8 (drop s.start w))

-- all words of a side: its number and its eight places
unfoldable pub side_in : Side → List ℕ → List ℕ
side_in s w = get_or w s.number 0 ∷ part s.start (s.width * 8) w

-- a side is unchanged: every word of it, and so the rows that wait
pub record Stays (s : Side) (before after : List ℕ) : Type 0 where
  pub every_word : side_in s after ≡ side_in s before
  pub every_row : waiting_rows s after ≡ waiting_rows s before
