-- For the functions that add a row, which refuse a ninth: `row-room-joined` (proofs/InPlace.antt) proves `row_appended` equal to `row_joined`
-- (Sides.antt) if fewer than eight rows wait. Assumes nothing.
use Rattle.std.specs.Prelude.{ℕ, cond, List, ltb}
use Rattle.queue_image.specs.Sides.{Side, rows_waiting, row_joined}

-- adds a row after those that wait if they are fewer than eight; otherwise the image is unchanged
unfoldable pub row_appended : Side → List ℕ → List ℕ → List ℕ
row_appended s row w = cond (ltb (rows_waiting s w) 8) (row_joined s row w) w
