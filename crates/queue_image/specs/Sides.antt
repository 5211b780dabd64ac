-- What a call leaves of the image's two sides. It changes the side that it needs: one row and the number, or the rows that wait. A freed
-- place is zeroed; every other word is unchanged. Assumes nothing.
use Rattle.std.specs.Prelude.{ℕ, suc, min, ◌+◌, ◌-◌, ◌*◌, List, [], ◌∷◌, ◌++◌, drop, get_or, replicate}
use Rattle.words.specs.Word.{part, splice}

-- a side: the place of its number, the start of its rows, and the words of a row
pub record Side : Type 0 where
  pub number : ℕ
  pub start : ℕ
  pub width : ℕ

-- the side of the requests
abbrev pub request_side : Side
request_side = record { number = 0; start = 2; width = 10 }

-- the side of the responses
abbrev pub response_side : Side
response_side = record { number = 1; start = 82; width = 16 }

-- the number of rows that wait, min(8, number)
unfoldable pub rows_waiting : Side → List ℕ → ℕ
rows_waiting s w = min 8 (get_or w s.number 0)

-- the words of the rows that wait
unfoldable pub rows_in : Side → List ℕ → List ℕ
rows_in s w = part s.start (s.width * rows_waiting s w) w

-- adds a row after those that wait (CE4)
unfoldable pub row_joined : Side → List ℕ → List ℕ → List ℕ
row_joined s row w = splice s.number (suc (rows_waiting s w) ∷ []) (splice (s.start + s.width * rows_waiting s w) row w)

-- drops the oldest row: the rows after it move up, and the freed place is zeroed (CE4)
unfoldable pub row_dropped : Side → List ℕ → List ℕ
row_dropped s w =
    splice s.number ((rows_waiting s w - 1) ∷ []) (splice s.start (drop s.width (rows_in s w) ++ replicate s.width 0) w)
