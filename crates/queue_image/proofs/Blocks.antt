-- Eight rows of the same width: a row added after the first k, and the first of k dropped. Assumes nothing.
use Prim.Native.Nat.{ℕ, zero, suc, min, ◌+◌, ◌-◌, ◌*◌, ◌≤◌, ◌<◌}
use mathlib.Core.Path.{◌≡◌, refl, sym, ap, ◌∙◌}
use mathlib.Core.List.{List, [], ◌∷◌, ◌++◌, append_assoc, append-nil}
use native.Mathlib.Nat.{mul-zero, zero-add, suc-sub-suc, sub-zero, zero-min, min-zero, suc-min-suc, mul-le-mul_left}
use native.Mathlib.Omega.{arith}
use lib.ListN.{length, take, drop, replicate, length-append, length-take, length-drop, length-replicate, replicate-append-replicate}
use lib.Seq.{length-take-le, take_at, drop_at, take-take, drop-nil, drop-append_seam}
use Rattle.words.specs.Word.{part, splice}
use Rattle.words.proofs.Store.{length-splice, front-splice, part-splice}
use Rattle.queue_image.specs.Image.{rows, flat, padded}
use Rattle.queue_image.proofs.Rows.{mul-more, rows-suc, drop-take, flat_append, flat-one, flat-length, padded-in}

-- ---- rows depend only on their own words
module _ (width : ℕ) where
  rows-front : (n : ℕ) (v : List ℕ) → rows width n (take (width * n) v) ≡ rows width n v
  unfolding rows
  rows-front zero v = refl
  rows-front (suc n) v =
      rw (mul-more width n, take-take width (width + width * n) v (omega arith), drop-take width (width * n) v, rows-front n (drop width v))

  pub rows_same : (n : ℕ) (u v : List ℕ) → take (width * n) u ≡ take (width * n) v → rows width n u ≡ rows width n v
  rows_same n u v e = sym (rows-front n u) ∙ ap (rows width n) e ∙ rows-front n v

  pub rows_taken : (m n : ℕ) (v : List ℕ) → take m (rows width n v) ≡ rows width (min n m) v
  unfolding rows
  rows_taken zero n v = rw min-zero
  rows_taken (suc m) zero v = rw zero-min
  rows_taken (suc m) (suc n) v = rw (suc-min-suc, rows_taken m n (drop width v))

-- ---- the two moves
unfoldable pub block_joined : ℕ → ℕ → List ℕ → List ℕ → List ℕ
block_joined width k row p = splice (width * k) row p

unfoldable pub block_dropped : ℕ → ℕ → List ℕ → List ℕ
block_dropped width k p = splice 0 (drop width (take (width * k) p) ++ replicate width 0) p

-- the words of k rows are within those of eight
pub rows-within : (width k : ℕ) → k ≤ 8 → width * k ≤ width * 8
rows-within width k h = mul-le-mul_left width h

module _ (width : ℕ) (p : List ℕ) (l : length p ≡ width * 8) where
  pub joined-rows : (k : ℕ) (row : List ℕ) → length row ≡ width → k < 8 →
      rows width (suc k) (block_joined width k row p) ≡ rows width k p ++ (row ∷ [])
  unfolding block_joined part
  joined-rows k row e h =
      let i : width * k ≤ length p = omega (arith, rows-within width k (omega arith)) in
      rows-suc width k (splice (width * k) row p)
      ∙ rw (rows_same width k (splice (width * k) row p) p (front-splice (width * k) row p i))
      (ap (λ (t : List ℕ). rows width k p ++ (t ∷ [])) (rw e at (part-splice (width * k) row p i)))

  pub dropped-rows : (k : ℕ) → k ≤ 8 → rows width (k - 1) (block_dropped width k p) ≡ drop 1 (rows width k p)
  unfolding block_dropped rows splice
  dropped-rows zero h = refl
  dropped-rows (suc k) h =
      let t : List ℕ = take (width * k) (drop width p) in
      let m : width + width * k ≤ length p = omega (arith, rows-within width (suc k) h, mul-more width k) in
      let e : drop width (take (width * suc k) p) ≡ t = rw (mul-more width k) (drop-take width (width * k) p) in
      let n : length t ≡ width * k = length-take-le (width * k) (drop width p) (omega (arith, length-drop width p)) in
      rw (suc-sub-suc, sub-zero) (rows_same width k (block_dropped width (suc k) p) (drop width p)
      (rw (e, append_assoc) (take_at t _ (width * k) n)))

-- ---- rows followed by zeros stay so
zeros-behind : (t : List ℕ) (width n m : ℕ) (p : List ℕ) → drop (length (t ++ replicate width 0)) p ≡ replicate n 0 →
    m - length t ≡ width + n → splice 0 (t ++ replicate width 0) p ≡ padded m t
unfolding splice padded
zeros-behind t width n m p e h =
    rw (zero-add, e, h) (append_assoc t (replicate width 0) (replicate n 0) ∙
    ap (λ (z : List ℕ). t ++ z) (replicate-append-replicate width n 0))

module _ {A : Type 0} (f : A → List ℕ) (width : ℕ) (wide : (x : A) → length (f x) ≡ width) where
  laid-length : (l : List A) → length (flat f l) ≡ width * length l
  laid-length l = flat-length f width wide l

  pub joined-padded : (l : List A) (x : A) → length l < 8 →
      block_joined width (length l) (f x) (padded (width * 8) (flat f l)) ≡ padded (width * 8) (flat f (l ++ (x ∷ [])))
  unfolding block_joined padded
  joined-padded l x h =
      let a : List ℕ = flat f l in
      let n : ℕ = width * 8 - length a in
      let e : length (f x) ≤ n = omega (arith, wide x, laid-length l, rows-within width (suc (length l)) h, mul-more width (length l)) in
      let g : n - length (f x) ≡ width * 8 - length (a ++ f x) = omega (arith, length-append a (f x)) in
      ap (λ (k : ℕ). splice k (f x) (a ++ replicate n 0)) (sym (laid-length l))
      ∙ ap (splice (length a) (f x)) (sym (append-nil (a ++ replicate n 0)))
      ∙ padded-in (length a) n a (f x) [] refl e
      ∙ rw (append-nil, flat_append, flat-one, ← g) (simp append_assoc)

  pub dropped-padded : (l : List A) → length l ≤ 8 → block_dropped width (length l) (padded (width * 8) (flat f l)) ≡ padded (width * 8)
      (flat f (drop 1 l))
  unfolding block_dropped padded flat
  dropped-padded [] h =
      let z : replicate {A = ℕ} (width * 8 - 0) 0 ≡ replicate width 0 ++ replicate (width * 7) 0 = sym
      (replicate-append-replicate width (width * 7) 0 ∙ ap (λ (k : ℕ). replicate k 0)
      (let e : width + width * 7 ≡ width * 8 - 0 = omega arith in e)) in
      rw (mul-zero, drop-nil) (zeros-behind [] width (width * 7) (width * 8) (replicate (width * 8 - 0) 0)
      (rw z (drop-append_seam (replicate width 0) (replicate (width * 7) 0))) (omega arith))
  dropped-padded (x ∷ l) h =
      let a : List ℕ = f x ++ flat f l in
      let n : ℕ = width * 8 - length a in
      let k : length a ≡ width * suc (length l) = laid-length (x ∷ l) in
      let e : drop width (take (width * suc (length l)) (a ++ replicate n 0)) ≡ flat f l = rw
      (take_at a (replicate n 0) (width * suc (length l)) k) (drop_at (f x) (flat f l) width (wide x)) in
      let g : length a ≡ length (flat f l ++ replicate width 0) = omega
      (arith, k, mul-more width (length l), laid-length l, length-append (flat f l) (replicate width 0), length-replicate {A = ℕ} width 0)
      in
      rw e (zeros-behind (flat f l) width n (width * 8) (a ++ replicate n 0) (drop_at a (replicate n 0) _ g)
      (omega (arith, k, mul-more width (length l), laid-length l, rows-within width (suc (length l)) h)))

-- ---- and eight rows stay eight
module _ (width : ℕ) (p : List ℕ) (l : length p ≡ width * 8) where
  pub joined_length : (k : ℕ) (row : List ℕ) → length row ≡ width → k < 8 → length (block_joined width k row p) ≡ width * 8
  unfolding block_joined
  joined_length k row e h = length-splice (width * k) row p (omega (arith, rows-within width (suc k) h, mul-more width k)) ∙ l

  pub dropped-fits : (k : ℕ) → k ≤ 8 → length (drop width (take (width * k) p) ++ replicate width 0) ≤ length p
  dropped-fits k h =
      let t : List ℕ = take (width * k) p in
      omega (
        arith,
        length-append (drop width t) (replicate width 0),
        length-drop width t,
        length-take (width * k) p,
        length-replicate {A = ℕ} width 0,
        rows-within width k h,
      )

  pub dropped-length : (k : ℕ) → k ≤ 8 → length (block_dropped width k p) ≡ width * 8
  unfolding block_dropped
  dropped-length k h = length-splice 0 _ p (rw zero-add (dropped-fits k h)) ∙ l
