-- The stores of a call on an image in place: a row added, and the rows after the oldest moved up. Assumes nothing.
use Prim.Native.Nat.{ℕ, zero, suc, min, ◌+◌, ◌-◌, ◌*◌, ◌<◌, ◌≤◌}
use mathlib.Core.Path.{◌≡◌, refl, sym, ap, ◌∙◌}
use mathlib.Core.List.{List, [], ◌∷◌, map}
use native.Mathlib.Nat.{mul-zero, suc-sub-suc, sub-zero}
use native.Mathlib.Numerals.{add-one}
use native.Mathlib.Omega.{arith}
use lib.ListN.{length, take, drop, get_or, set, replicate, length-drop, length-take}
use lib.Seq.{length-take-le, drop-drop}
use borrow.Author.Tests.{lt-ltb, le-ltb}
use Rattle.words.specs.Word.{part, bytes_of, splice}
use Rattle.words.proofs.Store.{splice-splice}
use Rattle.words.proofs.Lists.{bytes_of-length}
use Rattle.queue.specs.Queue.{signed_in, oldest_request, oldest_response}
use Rattle.queue_image.specs.Image.{rows, request_in, held_in, response_in, lists_in}
use Rattle.queue_image.specs.Sides.{Side, request_side, response_side, rows_waiting, rows_in, row_joined, row_dropped}
use Rattle.queue_image.specs.Steps.{row_appended}
use Rattle.queue_image.proofs.Rows.{mul-more, drop-take, row_at, put_first}
use Rattle.queue_image.proofs.Sides.{waits}

-- ---- words moved up: the first n of them
unfoldable pub up_to : (start width : ℕ) → List ℕ → ℕ → List ℕ
up_to start width s n = splice start (part (start + width) n s) s

-- ---- the oldest row dropped
-- the rows after it
behind : (width start : ℕ) (w : List ℕ) (n : ℕ) → drop width (part start (width * n) w) ≡ part (start + width) (width * (n - 1)) w
unfolding part
behind width start w zero = rw mul-zero (drop-none width)
  where
    drop-none : (k : ℕ) → drop {A = ℕ} k [] ≡ []
    drop-none zero = refl
    drop-none (suc k) = refl
behind width start w (suc n) = rw (mul-more, suc-sub-suc, sub-zero, drop-take width (width * n) (drop start w), drop-drop width start w)

times-le : (width m n : ℕ) → m ≤ n → width * m ≤ width * n
times-le width zero n h = rw mul-zero (omega arith)
times-le width (suc m) zero h = absurd (omega arith)
times-le width (suc m) (suc n) h = let i = times-le width m n (omega arith) in rw (mul-more width m, mul-more width n) (omega arith)

-- the freed place is on the side
pub row_room : (width n : ℕ) → n ≤ 7 → width + width * n ≤ width * 8
row_room width n h = rw (← mul-more width n) (times-le width (suc n) 8 (omega arith))

-- the stores of a drop: the rows after the oldest moved up, zeros after them, and the number
pub row-dropped : (s : Side) (w : List ℕ) (n : ℕ) → n ≡ min 8 (get_or w s.number 0) - 1 → s.start + s.width * 8 ≤ length w →
    s.number < s.start → (u t : List ℕ) →
    u ≡ up_to s.start s.width w (s.width * n) → t ≡ splice (s.start + s.width * n) (replicate s.width 0) u →
    length t ≡ length w → set t s.number n ≡ row_dropped s w
unfolding row_dropped rows_in rows_waiting up_to part
row-dropped s w n e h k u t q p l =
    let m : ℕ = min 8 (get_or w s.number 0) in
    let vs : List ℕ = part (s.start + s.width) (s.width * n) w in
    let r : s.width + s.width * n ≤ s.width * 8 = row_room s.width n (omega arith) in
    let j : length vs ≡ s.width * n = length-take-le (s.width * n) (drop (s.start + s.width) w)
    (omega (arith, length-drop (s.start + s.width) w)) in
    let b : drop s.width (part s.start (s.width * m) w) ≡ vs = behind s.width s.start w m ∙
    ap (λ (i : ℕ). part (s.start + s.width) (s.width * i) w) (sym e) in
    put_first s.number t n (omega arith)
    ∙ rw (p, q, b, ← e) (ap (λ (i : ℕ). splice s.number (n ∷ [])
    (splice (s.start + i) (replicate s.width 0) (splice s.start vs w))) (sym j)
    ∙ ap (splice s.number (n ∷ [])) (splice-splice s.start vs w (omega arith) (replicate s.width 0)))

-- ---- a row added
module _ (s : Side) (row w : List ℕ) where
  pub row-full : 8 ≤ min 8 (get_or w s.number 0) → w ≡ row_appended s row w
  unfolding row_appended rows_waiting
  row-full h = rw (le-ltb (min 8 (get_or w s.number 0)) 8 h)

  pub row-joined : (n : ℕ) → n ≡ min 8 (get_or w s.number 0) → n < 8 → (t : List ℕ) → t ≡ splice (s.start + s.width * n) row w →
      s.number < length t → set t s.number (n + 1) ≡ row_appended s row w
  unfolding row_appended row_joined rows_waiting
  row-joined n e h t p k = rw (← e, lt-ltb n 8 h, ← p, add-one) (put_first s.number t (suc n) k)

  pub row-room-joined : rows_waiting s w < 8 → row_appended s row w ≡ row_joined s row w
  unfolding row_appended
  row-room-joined h = rw (lt-ltb (rows_waiting s w) 8 h)

-- ---- the lists have as many entries as rows wait
pub requests-wait : (w : List ℕ) → rows_waiting request_side w ≡ length (lists_in w).requests
unfolding rows_waiting lists_in
requests-wait w = waits w request_in 10 (get_or w 0 0) 2

pub responses-wait : (w : List ℕ) → rows_waiting response_side w ≡ length (lists_in w).responses
unfolding rows_waiting lists_in
responses-wait w = waits w response_in 16 (get_or w 1 0) 82

-- ---- the length of the signature in a row
pub row-signature : (at : ℕ) (w : List ℕ) → at + 16 ≤ length w → length (response_in (part at 16 w)).signature ≡ min (get_or w (at + 2) 0) 104
unfolding response_in signed_in held_in part
row-signature at w h =
    let row : List ℕ = take 16 (drop at w) in
    let l : length row ≡ 16 = length-take-le 16 (drop at w) (omega (arith, length-drop at w)) in
    let n : length (bytes_of (drop 3 row)) ≡ 104 = bytes_of-length (drop 3 row) ∙ omega (arith, length-drop 3 row) in
    length-take (get_or row 2 0) (bytes_of (drop 3 row)) ∙ rw (n, row_at 16 at 2 w (omega arith))

-- ---- the entry in the first place is the oldest, if one waits
module _ (w : List ℕ) where
  first : {A : Type 0} (f : List ℕ → A) (width at n : ℕ) (d : A) → (n ≡ 0 → ⊥) →
      get_or (take n (map f (rows width 8 (drop at w)))) 0 d ≡ f (part at width w)
  unfolding rows part
  first f width at zero d h = absurd (h refl)
  first f width at (suc n) d h = refl

  pub front-request-is : (length (lists_in w).requests ≡ 0 → ⊥) → oldest_request (lists_in w).requests ≡ request_in (part 2 10 w)
  unfolding lists_in oldest_request
  front-request-is h = first request_in 10 2 (get_or w 0 0) _ (λ e. h (rw e))

  pub front-response-is : (length (lists_in w).responses ≡ 0 → ⊥) → oldest_response (lists_in w).responses ≡ response_in (part 82 16 w)
  unfolding lists_in oldest_response
  front-response-is h = first response_in 16 82 (get_or w 1 0) _ (λ e. h (rw e))
