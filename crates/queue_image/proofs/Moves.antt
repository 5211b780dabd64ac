-- The moves of the image's sides: adding a row leaves what waits there with one more at the end, dropping the oldest leaves it without the
-- first, and both leave every word of the other side unchanged. Proved once for both sides. Assumes nothing.
use Prim.Native.Nat.{ℕ, suc, min, ◌+◌, ◌-◌, ◌*◌, ◌≤◌, ◌<◌}
use mathlib.Core.Path.{◌≡◌, refl, sym, ap, ◌∙◌, subst}
use mathlib.Core.List.{List, [], ◌∷◌, ◌++◌, append_assoc, append-nil}
use native.Mathlib.Nat.{zero-add, add-zero, add_assoc}
use native.Mathlib.Omega.{arith}
use lib.ListN.{length, take, drop, get_or, replicate, take-append-drop, length-append, length-drop}
use lib.Seq.{length-take-le, take_at, drop_at, take-append-le, drop-append-le, take-append-add, drop-append-add}
use Rattle.words.specs.Word.{part, splice}
use Rattle.queue_image.specs.Image.{rows}
use Rattle.queue_image.specs.Sides.{Side, rows_waiting, rows_in, row_joined, row_dropped}
use Rattle.queue_image.specs.Waits.{Beside, of_requests, of_responses, waiting_rows, side_in, Stays}
use Rattle.queue_image.proofs.Rows.{mul-more}
use Rattle.queue_image.proofs.Blocks.{rows_same, rows_taken, rows-within, block_joined, block_dropped, joined-rows, dropped-rows}
use Rattle.queue_image.proofs.Blocks.{joined_length, dropped-fits, dropped-length}

-- ---- an image of a side's number n and places p, and the other side's m and q
unfoldable pub sides_laid : {s o : Side} → Beside s o → ℕ → List ℕ → ℕ → List ℕ → List ℕ
sides_laid of_requests n p m q = n ∷ m ∷ (p ++ q)
sides_laid of_responses n p m q = m ∷ n ∷ (q ++ p)

turned : {s o : Side} → Beside s o → Beside o s
turned of_requests = of_responses
turned of_responses = of_requests

image-turned : {s o : Side} (b : Beside s o) (n : ℕ) (p : List ℕ) (m : ℕ) (q : List ℕ) → sides_laid b n p m q ≡ sides_laid (turned b) m q n p
unfolding sides_laid turned
image-turned of_requests n p m q = refl
image-turned of_responses n p m q = refl

-- the words after a side's places
behind : {s o : Side} → Beside s o → List ℕ → List ℕ
behind of_requests q = q
behind of_responses q = []

splice_at : (at i : ℕ) (vs a p c : List ℕ) → length a ≡ at → i + length vs ≤ length p →
    splice (at + i) vs (a ++ (p ++ c)) ≡ a ++ (splice i vs p ++ c)
unfolding splice
splice_at at i vs a p c e h =
    let k : i ≤ length p = omega arith in
    rw (
      ← e,
      take-append-add a (p ++ c) i,
      take-append-le i p c k,
      add_assoc,
      drop-append-add a (p ++ c) (i + length vs),
      drop-append-le (i + length vs) p c h,
    ) (simp append_assoc)

module _ (n : ℕ) (p : List ℕ) (m : ℕ) (q : List ℕ) where
  number_in : {s o : Side} (b : Beside s o) → get_or (sides_laid b n p m q) s.number 0 ≡ n
  unfolding sides_laid
  number_in of_requests = refl
  number_in of_responses = refl

  places-in : {s o : Side} (b : Beside s o) → length q ≡ o.width * 8 → drop s.start (sides_laid b n p m q) ≡ p ++ behind b q
  unfolding sides_laid behind
  places-in of_requests k = refl
  places-in of_responses k = drop_at q p 80 k ∙ sym (append-nil p)

  -- words written over a side's places, and its number
  over-in : {s o : Side} (b : Beside s o) → length q ≡ o.width * 8 → (x i : ℕ) (vs : List ℕ) → i + length vs ≤ length p →
      splice s.number (x ∷ []) (splice (s.start + i) vs (sides_laid b n p m q)) ≡ sides_laid b x (splice i vs p) m q
  unfolding sides_laid splice
  over-in of_requests k x i vs h = ap (splice 0 (x ∷ [])) (splice_at 2 i vs (n ∷ m ∷ []) p q refl h)
  over-in of_responses k x i vs h =
      let e : length (m ∷ n ∷ q) ≡ 82 = omega arith in
      ap (λ (l : List ℕ). splice 1 (x ∷ []) (splice (82 + i) vs (m ∷ n ∷ (q ++ l)))) (sym (append-nil p))
      ∙ ap (splice 1 (x ∷ [])) (splice_at 82 i vs (m ∷ n ∷ q) p [] e h)
      ∙ ap (λ (l : List ℕ). m ∷ x ∷ (q ++ l)) (append-nil (splice i vs p))

module _ {s o : Side} (b : Beside s o) (n : ℕ) (p : List ℕ) (m : ℕ) (q : List ℕ) (k : length p ≡ s.width * 8)
    (j : length q ≡ o.width * 8) where
  waiting-in : rows_waiting s (sides_laid b n p m q) ≡ min 8 n
  unfolding rows_waiting
  waiting-in = ap (min 8) (number_in n p m q b)

  side-in : side_in s (sides_laid b n p m q) ≡ n ∷ p
  unfolding side_in part
  side-in = rw (number_in n p m q b, places-in n p m q b j, take_at p (behind b q) (s.width * 8) k)

  first-in : (i : ℕ) → i ≤ 8 → take (s.width * i) (p ++ behind b q) ≡ take (s.width * i) p
  first-in i h = take-append-le (s.width * i) p (behind b q) (omega (arith, rows-within s.width i h))

  rows-in : waiting_rows s (sides_laid b n p m q) ≡ rows s.width (min 8 n) p
  unfolding waiting_rows
  rows-in =
      rw (number_in n p m q b, places-in n p m q b j) (rows_taken s.width n 8 (p ++ behind b q) ∙
      rows_same s.width (min 8 n) (p ++ behind b q) p (first-in (min 8 n) (omega arith)))

  -- the moves
  pub joined_in : (row : List ℕ) → length row ≡ s.width → min 8 n < 8 →
      row_joined s row (sides_laid b n p m q) ≡ sides_laid b (suc (min 8 n)) (block_joined s.width (min 8 n) row p) m q
  unfolding row_joined block_joined
  joined_in row e h =
      rw waiting-in (over-in n p m q b j (suc (min 8 n)) (s.width * min 8 n) row
      (omega (arith, rows-within s.width (suc (min 8 n)) h, mul-more s.width (min 8 n))))

  pub dropped-in : row_dropped s (sides_laid b n p m q) ≡ sides_laid b (min 8 n - 1) (block_dropped s.width (min 8 n) p) m q
  unfolding row_dropped block_dropped rows_in part
  dropped-in =
      let t : List ℕ = take (s.width * min 8 n) p in
      let z : List ℕ = replicate s.width 0 in
      let e : take (s.width * min 8 n) (drop s.start (sides_laid b n p m q)) ≡ t = rw (places-in n p m q b j)
      (first-in (min 8 n) (omega arith)) in
      let h : 0 + length (drop s.width t ++ z) ≤ length p = rw zero-add (dropped-fits s.width p k (min 8 n) (omega arith)) in
      rw (waiting-in, e)
      (ap (λ (at : ℕ). splice s.number ((min 8 n - 1) ∷ []) (splice at (drop s.width t ++ z) (sides_laid b n p m q)))
      (sym (add-zero s.start))
      ∙ over-in n p m q b j (min 8 n - 1) 0 (drop s.width t ++ z) h)

-- ---- any image of 210 words is one
by-image : {s o : Side} (b : Beside s o) (P : List ℕ → Type 0) →
    ((n : ℕ) (p : List ℕ) (m : ℕ) (q : List ℕ) → length p ≡ s.width * 8 → length q ≡ o.width * 8 → P (sides_laid b n p m q)) →
    (w : List ℕ) → length w ≡ 210 → P w
unfolding sides_laid
by-image b P h [] l = absurd (omega arith)
by-image b P h (x ∷ []) l = absurd (omega arith)
by-image of_requests P h (x ∷ y ∷ v) l =
    subst (λ (u : List ℕ). P (x ∷ y ∷ u)) (take-append-drop 80 v)
    (h x (take 80 v) y (drop 80 v) (length-take-le 80 v (omega arith)) (omega (arith, length-drop 80 v)))
by-image of_responses P h (x ∷ y ∷ v) l =
    subst (λ (u : List ℕ). P (x ∷ y ∷ u)) (take-append-drop 80 v)
    (h y (drop 80 v) x (take 80 v) (omega (arith, length-drop 80 v)) (length-take-le 80 v (omega arith)))

-- ---- an image stays one of 210 words
image-length : {s o : Side} (b : Beside s o) (n : ℕ) (p : List ℕ) (m : ℕ) (q : List ℕ) → length p ≡ s.width * 8 →
    length q ≡ o.width * 8 → length (sides_laid b n p m q) ≡ 210
unfolding sides_laid
image-length of_requests n p m q k j = omega (arith, length-append p q)
image-length of_responses n p m q k j = omega (arith, length-append q p)

module _ {s o : Side} (b : Beside s o) (w : List ℕ) (l : length w ≡ 210) where
  pub joined-210 : (row : List ℕ) → length row ≡ s.width → rows_waiting s w < 8 → length (row_joined s row w) ≡ 210
  joined-210 row e =
      by-image b (λ (v : List ℕ). rows_waiting s v < 8 → length (row_joined s row v) ≡ 210)
      (λ n p m q k j r.
      let h : min 8 n < 8 = rw (waiting-in b n p m q k j) at r in
      rw (joined_in b n p m q k j row e h) (image-length b (suc (min 8 n)) _ m q (joined_length s.width p k (min 8 n) row e h) j))
      w l

  pub dropped-210 : length (row_dropped s w) ≡ 210
  dropped-210 =
      by-image b (λ (v : List ℕ). length (row_dropped s v) ≡ 210)
      (λ n p m q k j. rw (dropped-in b n p m q k j) (image-length b (min 8 n - 1) _ m q
      (dropped-length s.width p k (min 8 n) (omega arith)) j))
      w l

-- ---- what waits after a move
module _ {s o : Side} (b : Beside s o) (w : List ℕ) (l : length w ≡ 210) where
  -- the row is the last of those that wait
  pub joined-waits : (row : List ℕ) → length row ≡ s.width → rows_waiting s w < 8 →
      waiting_rows s (row_joined s row w) ≡ waiting_rows s w ++ (row ∷ [])
  joined-waits row e =
      by-image b (λ (v : List ℕ). rows_waiting s v < 8 → waiting_rows s (row_joined s row v) ≡ waiting_rows s v ++ (row ∷ []))
      (λ n p m q k j r.
      let h : min 8 n < 8 = rw (waiting-in b n p m q k j) at r in
      let c : min 8 (suc (min 8 n)) ≡ suc (min 8 n) = omega arith in
      rw (
        joined_in b n p m q k j row e h,
        rows-in b n p m q k j,
        rows-in b (suc (min 8 n)) (block_joined s.width (min 8 n) row p) m q (joined_length s.width p k (min 8 n) row e h) j,
        c,
      )
      (joined-rows s.width p k (min 8 n) row e h))
      w l

  -- the first row is dropped
  pub dropped-waits : waiting_rows s (row_dropped s w) ≡ drop 1 (waiting_rows s w)
  dropped-waits =
      by-image b (λ (v : List ℕ). waiting_rows s (row_dropped s v) ≡ drop 1 (waiting_rows s v))
      (λ n p m q k j.
      let h : min 8 n ≤ 8 = omega arith in
      let c : min 8 (min 8 n - 1) ≡ min 8 n - 1 = omega arith in
      rw (
        dropped-in b n p m q k j,
        rows-in b n p m q k j,
        rows-in b (min 8 n - 1) (block_dropped s.width (min 8 n) p) m q (dropped-length s.width p k (min 8 n) h) j,
        c,
      )
      (dropped-rows s.width p k (min 8 n) h))
      w l

-- ---- the other side is unchanged
-- for any number and places written on a side
module _ {s o : Side} (b : Beside s o) (n : ℕ) (p : List ℕ) (m : ℕ) (q : List ℕ) (k : length p ≡ s.width * 8)
    (j : length q ≡ o.width * 8) where
  side-beside : side_in o (sides_laid b n p m q) ≡ m ∷ q
  side-beside = rw (image-turned b n p m q) (side-in (turned b) m q n p j k)

  rows-beside : waiting_rows o (sides_laid b n p m q) ≡ rows o.width (min 8 m) q
  rows-beside = rw (image-turned b n p m q) (rows-in (turned b) m q n p j k)

stays-beside : {s o : Side} (b : Beside s o) (n : ℕ) (p : List ℕ) (m : ℕ) (q : List ℕ) → length p ≡ s.width * 8 → length q ≡ o.width * 8 →
    (x : ℕ) (r : List ℕ) → length r ≡ s.width * 8 → Stays o (sides_laid b n p m q) (sides_laid b x r m q)
stays-beside b n p m q k j x r i =
    record {
      every_word = side-beside b x r m q i j ∙ sym (side-beside b n p m q k j);
      every_row = rows-beside b x r m q i j ∙ sym (rows-beside b n p m q k j);
    }

module _ {s o : Side} (b : Beside s o) (w : List ℕ) (l : length w ≡ 210) where
  pub joined-beside : (row : List ℕ) → length row ≡ s.width → rows_waiting s w < 8 → Stays o w (row_joined s row w)
  joined-beside row e =
      by-image b (λ (v : List ℕ). rows_waiting s v < 8 → Stays o v (row_joined s row v))
      (λ n p m q k j r.
      let h : min 8 n < 8 = rw (waiting-in b n p m q k j) at r in
      rw (joined_in b n p m q k j row e h) (stays-beside b n p m q k j (suc (min 8 n)) _ (joined_length s.width p k (min 8 n) row e h)))
      w l

  pub dropped-beside : Stays o w (row_dropped s w)
  dropped-beside =
      by-image b (λ (v : List ℕ). Stays o v (row_dropped s v))
      (λ n p m q k j. rw (dropped-in b n p m q k j) (stays-beside b n p m q k j (min 8 n - 1) _
      (dropped-length s.width p k (min 8 n) (omega arith))))
      w l
