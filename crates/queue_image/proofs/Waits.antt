-- The moves of the image's sides, stated for the queue of the image: the lists after a move, that the image keeps 210 words, and that an
-- image with zeros wherever nothing waits stays one. Assumes nothing.
use Prim.Native.Nat.{ℕ, zero, suc, min, ◌-◌, ◌*◌, ◌≤◌, ◌<◌}
use mathlib.Core.Path.{◌≡◌, refl, sym, ap, ◌∙◌}
use mathlib.Core.List.{List, [], ◌∷◌, ◌++◌, map, map-append}
use native.Mathlib.Omega.{arith}
use lib.ListN.{length, take, drop, get_or, replicate, length-append, length-take, length-drop, length-map}
use Rattle.words.specs.Tests.{Yes}
use Rattle.queue.specs.declared.Request.{Request}
use Rattle.queue.specs.Queue.{Signed, Lists}
use Rattle.queue_image.specs.Image.{rows, request_in, response_in, lists_in, request_words, response_words, flat, padded, queue_words}
use Rattle.queue_image.specs.Image.{request_fits, response_fits, Exact}
use Rattle.queue_image.specs.Sides.{Side, request_side, response_side, rows_waiting, row_joined, row_dropped}
use Rattle.queue_image.specs.Waits.{Beside, of_requests, of_responses, waiting_rows, Stays}
use Rattle.queue_image.proofs.Rows.{rows-length, flat-length, padded-length}
use Rattle.queue_image.proofs.Sides.{request-wide, response-wide}
use Rattle.queue_image.proofs.Inverse.{request-back, response-back, zeros-in, zeros-out}
use Rattle.queue_image.proofs.InPlace.{requests-wait, responses-wait}
use Rattle.queue_image.proofs.Blocks.{rows-within, joined-padded, dropped-padded}
use Rattle.queue_image.proofs.Moves.{sides_laid, joined_in, dropped-in, joined-waits, dropped-waits, joined-beside, dropped-beside}

-- ---- a side as it is read: each row that waits
module _ {A : Type 0} (f : List ℕ → A) where
  abbrev read_in : Side → List ℕ → List A
  read_in s w = take (get_or w s.number 0) (map f (rows s.width 8 (drop s.start w)))

  map-taken : (n : ℕ) (l : List (List ℕ)) → take n (map f l) ≡ map f (take n l)
  map-taken zero l = refl
  map-taken (suc n) [] = refl
  map-taken (suc n) (x ∷ l) = ap (λ (t : List A). f x ∷ t) (map-taken n l)

  map-rest : (l : List (List ℕ)) → map f (drop 1 l) ≡ drop 1 (map f l)
  map-rest [] = refl
  map-rest (x ∷ l) = refl

  read-rows : (s : Side) (w : List ℕ) → read_in s w ≡ map f (waiting_rows s w)
  unfolding waiting_rows
  read-rows s w = map-taken (get_or w s.number 0) (rows s.width 8 (drop s.start w))

  read_number : (s : Side) (w : List ℕ) → rows_waiting s w ≡ length (read_in s w)
  unfolding rows_waiting
  read_number s w =
      let r : List (List ℕ) = rows s.width 8 (drop s.start w) in
      omega (arith, length-take (get_or w s.number 0) (map f r), length-map r f, rows-length s.width 8 (drop s.start w))

  module _ {s o : Side} (b : Beside s o) (w : List ℕ) (l : length w ≡ 210) where
    read-joined : (row : List ℕ) → length row ≡ s.width → length (read_in s w) < 8 →
        read_in s (row_joined s row w) ≡ read_in s w ++ (f row ∷ [])
    read-joined row e h =
        read-rows s (row_joined s row w) ∙ ap (map f) (joined-waits b w l row e (omega (arith, read_number s w))) ∙
        map-append f (waiting_rows s w) (row ∷ [])
        ∙ ap (λ (t : List A). t ++ (f row ∷ [])) (sym (read-rows s w))

    read_dropped : read_in s (row_dropped s w) ≡ drop 1 (read_in s w)
    read_dropped =
        read-rows s (row_dropped s w) ∙ ap (map f) (dropped-waits b w l) ∙ map-rest (waiting_rows s w) ∙ ap (drop 1) (sym (read-rows s w))

  read-beside : (o : Side) (w v : List ℕ) → Stays o w v → read_in o v ≡ read_in o w
  read-beside o w v h = read-rows o v ∙ ap (map f) h.every_row ∙ sym (read-rows o w)

-- ---- the lists after each move
module _ (w : List ℕ) (l : length w ≡ 210) where
  pub request-joined : (r : Request) → Yes (request_fits r) → length (lists_in w).requests < 8 →
      lists_in (row_joined request_side (request_words r) w) ≡ record
      { requests = (lists_in w).requests ++ (r ∷ []); responses = (lists_in w).responses }
  unfolding lists_in
  request-joined r y h =
      let n : rows_waiting request_side w < 8 = omega (arith, requests-wait w) in
      rw (
        read-joined request_in of_requests w l (request_words r) (request-wide r) h,
        request-back r y,
        read-beside response_in response_side w _ (joined-beside of_requests w l (request_words r) (request-wide r) n),
      )

  pub response-joined : (r : Signed) → Yes (response_fits r) → length (lists_in w).responses < 8 →
      lists_in (row_joined response_side (response_words r) w) ≡
      record { requests = (lists_in w).requests; responses = (lists_in w).responses ++ (r ∷ []) }
  unfolding lists_in
  response-joined r y h =
      let n : rows_waiting response_side w < 8 = omega (arith, responses-wait w) in
      rw (
        read-beside request_in request_side w _ (joined-beside of_responses w l (response_words r) (response-wide r) n),
        read-joined response_in of_responses w l (response_words r) (response-wide r) h,
        response-back r y,
      )

  pub request-dropped : lists_in (row_dropped request_side w) ≡
      record { requests = drop 1 (lists_in w).requests; responses = (lists_in w).responses }
  unfolding lists_in
  request-dropped = rw (read_dropped request_in of_requests w l, read-beside response_in response_side w _ (dropped-beside of_requests w l))

  pub response-dropped : lists_in (row_dropped response_side w) ≡
      record { requests = (lists_in w).requests; responses = drop 1 (lists_in w).responses }
  unfolding lists_in
  response-dropped = rw (read-beside request_in request_side w _ (dropped-beside of_responses w l), read_dropped response_in of_responses w l)

-- ---- the image of a queue, after each move: that of the lists after it
module _ {A : Type 0} (f : A → List ℕ) (width : ℕ) (wide : (x : A) → length (f x) ≡ width) where
  places-length : (l : List A) → length l ≤ 8 → length (padded (width * 8) (flat f l)) ≡ width * 8
  places-length l h = padded-length (width * 8) (flat f l) (omega (arith, flat-length f width wide l, rows-within width (length l) h))

-- a side of what waits and zeros, with any other side
module _ {A : Type 0} (f : A → List ℕ) {s o : Side} (b : Beside s o) (wide : (x : A) → length (f x) ≡ s.width) (l : List A) (m : ℕ)
    (q : List ℕ) (j : length q ≡ o.width * 8) where
  abbrev laid_out : List A → List ℕ
  laid_out t = sides_laid b (length t) (padded (s.width * 8) (flat f t)) m q

  laid-joined : (x : A) → length l < 8 → row_joined s (f x) (laid_out l) ≡ laid_out (l ++ (x ∷ []))
  laid-joined x h =
      let c : min 8 (length l) ≡ length l = omega arith in
      let n : suc (length l) ≡ length (l ++ (x ∷ [])) = omega (arith, length-append l (x ∷ [])) in
      joined_in b (length l) _ m q (places-length f s.width wide l (omega arith)) j (f x) (wide x) (omega arith) ∙
      rw (c, joined-padded f s.width wide l x h, n)

  laid-dropped : length l ≤ 8 → row_dropped s (laid_out l) ≡ laid_out (drop 1 l)
  laid-dropped h =
      let c : min 8 (length l) ≡ length l = omega arith in
      let n : length l - 1 ≡ length (drop 1 l) = sym (length-drop 1 l) in
      dropped-in b (length l) _ m q (places-length f s.width wide l h) j ∙ rw (c, dropped-padded f s.width wide l h, n)

module _ (a : List Request) (c : List Signed) (h : length a ≤ 8) (k : length c ≤ 8) where
  abbrev queue_of : List Request → List Signed → List ℕ
  queue_of x y = queue_words (record { requests = x; responses = y })

  requests-join : (r : Request) → length a < 8 → row_joined request_side (request_words r) (queue_of a c) ≡ queue_of (a ++ (r ∷ [])) c
  unfolding queue_words sides_laid
  requests-join r n =
      laid-joined request_words of_requests request-wide a (length c) (padded 128 (flat response_words c))
      (places-length response_words 16 response-wide c k) r n

  requests-drop : row_dropped request_side (queue_of a c) ≡ queue_of (drop 1 a) c
  unfolding queue_words sides_laid
  requests-drop =
      laid-dropped request_words of_requests request-wide a (length c) (padded 128 (flat response_words c))
      (places-length response_words 16 response-wide c k) h

  responses-join : (r : Signed) → length c < 8 → row_joined response_side (response_words r) (queue_of a c) ≡ queue_of a (c ++ (r ∷ []))
  unfolding queue_words sides_laid
  responses-join r n =
      laid-joined response_words of_responses response-wide c (length a) (padded 80 (flat request_words a))
      (places-length request_words 10 request-wide a h) r n

  responses-drop : row_dropped response_side (queue_of a c) ≡ queue_of a (drop 1 c)
  unfolding queue_words sides_laid
  responses-drop =
      laid-dropped response_words of_responses response-wide c (length a) (padded 80 (flat request_words a))
      (places-length request_words 10 request-wide a h) k

-- ---- an exact image stays one
pub zeros-exact : Exact (replicate 210 0)
unfolding Exact
zeros-exact = sym (ap queue_words zeros-in ∙ zeros-out)

exact-by : (move : List ℕ → List ℕ) (w : List ℕ) (q : Lists) → Exact w → move (queue_words (lists_in w)) ≡ queue_words q →
    lists_in (move w) ≡ q → Exact (move w)
unfolding Exact
exact-by move w q e i r = ap move e ∙ i ∙ ap queue_words (sym r)

module _ (w : List ℕ) (l : length w ≡ 210) (e : Exact w) where
  few-requests : length (lists_in w).requests ≤ 8
  unfolding rows_waiting
  few-requests = omega (arith, requests-wait w)

  few-responses : length (lists_in w).responses ≤ 8
  unfolding rows_waiting
  few-responses = omega (arith, responses-wait w)

  pub request-joined-exact : (r : Request) → Yes (request_fits r) → length (lists_in w).requests < 8 →
      Exact (row_joined request_side (request_words r) w)
  request-joined-exact r y h =
      exact-by (row_joined request_side (request_words r)) w _ e (requests-join _ _ few-requests few-responses r h) (request-joined w l r y h)

  pub response-joined-exact : (r : Signed) → Yes (response_fits r) → length (lists_in w).responses < 8 →
      Exact (row_joined response_side (response_words r) w)
  response-joined-exact r y h =
      exact-by (row_joined response_side (response_words r)) w _ e (responses-join _ _ few-requests few-responses r h)
      (response-joined w l r y h)

  pub request-dropped-exact : Exact (row_dropped request_side w)
  request-dropped-exact = exact-by (row_dropped request_side) w _ e (requests-drop _ _ few-requests few-responses) (request-dropped w l)

  pub response-dropped-exact : Exact (row_dropped response_side w)
  response-dropped-exact = exact-by (row_dropped response_side) w _ e (responses-drop _ _ few-requests few-responses) (response-dropped w l)
