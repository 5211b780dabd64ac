-- A buffer in the page, for the theorems on commands. Assumes nothing.
use Rattle.std.specs.Prelude.{ℕ, ◌+◌, ◌-◌, ◌≤◌, ◌<◌, ◌≡◌, List, length, take, drop}
use Rattle.words.specs.Word.{part}
use Rattle.boot.specs.declared.Params.{Params}

-- The buffer passes the checks of page and range: the page has 4,096 bytes, pa is in [B + K, B + 4,096), and the size is at most
-- B + 4,096 - pa (RT7 to RT9).
pub record BufferIn (u : Params) (page : List ℕ) (pa size : ℕ) : Type 0 where
  pub whole : length page ≡ 4096
  pub from : u.base + u.kept ≤ pa
  pub below : pa < u.base + 4096
  pub fits : size ≤ u.base + 4096 - pa

-- The bytes are at offset `at` of the page, and every byte before and after them is unchanged
pub record WrittenAt (at : ℕ) (bytes page after : List ℕ) : Type 0 where
  pub there : part at (length bytes) after ≡ bytes
  pub before : take at after ≡ take at page
  pub behind : drop (at + length bytes) after ≡ drop (at + length bytes) page
