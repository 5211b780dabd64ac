-- Rows of words in loops: read one by one, and written one by one. Assumes nothing.
use Prim.Native.Nat.{ℕ, zero, suc, ◌+◌, ◌-◌, ◌*◌, ◌≤◌, ◌<◌}
use mathlib.Core.Path.{◌≡◌, refl, sym, ap, ◌∙◌}
use mathlib.Core.List.{List, [], ◌∷◌, ◌++◌, append_assoc, append-nil, map, map-append}
use native.Mathlib.Nat.{mul-zero, mul-suc, add_comm, add-zero, zero-add, suc-add}
use native.Mathlib.Numerals.{add-one}
use native.Mathlib.Omega.{arith}
use lib.ListN.{length, take, drop, get_or, set, replicate, length-append, length-map, length-drop, length-replicate}
use lib.ListN.{replicate-append-replicate, drop_of_length-le}
use lib.Seq.{length-take-le, take_at, drop_at, drop-drop, drop-cons, set_at, append_snoc, paste-zero, take-nil, get_or-take, get_or-drop}
use Rattle.words.specs.Word.{part, word_at, words_of, bytes_of, splice, laid}
use Rattle.words.proofs.Read.{words_of-length, words_of-suc}
use Rattle.words.proofs.Store.{laid-all}
use Rattle.words.proofs.Lists.{bytes_of-length}
use Rattle.queue_image.specs.Image.{rows, flat, padded}

-- ---- rows read
pub mul-more : (m n : ℕ) → m * suc n ≡ m + m * n
mul-more m n = mul-suc m n ∙ add_comm (m * n) m

pub rows-length : (width n : ℕ) (w : List ℕ) → length (rows width n w) ≡ n
unfolding rows
rows-length width zero w = refl
rows-length width (suc n) w = ap suc (rows-length width n (drop width w))

-- one more row
pub rows-suc : (width n : ℕ) (w : List ℕ) → rows width (suc n) w ≡ rows width n w ++ (take width (drop (width * n) w) ∷ [])
unfolding rows
rows-suc width zero w = rw mul-zero
rows-suc width (suc n) w = rw (mul-more, ← drop-drop) (ap {B = List (List ℕ)} (λ t. take width w ∷ t) (rows-suc width n (drop width w)))

module _ {A : Type 0} (f : List ℕ → A) (width start : ℕ) (w : List ℕ) (items : List A) where
  -- the first i rows from offset `at`, over the items of an array
  unfoldable pub read_to : ℕ → List A
  read_to i = map f (rows width i (drop start w)) ++ drop i items

  pub read_none : items ≡ read_to 0
  unfolding read_to rows
  read_none = refl

  -- one row more, and all of them
  pub read_more : (i : ℕ) (now : List A) (d x : A) → now ≡ read_to i → i < length items → x ≡ f (part (start + width * i) width w) →
      set now i x ≡ read_to (i + 1)
  unfolding read_to part
  read_more i now d x e h g =
      let l : length (map f (rows width i (drop start w))) ≡ i = length-map (rows width i (drop start w)) f ∙
      rows-length width i (drop start w) in
      rw (e, g, drop-cons items i d h, set_at _ _ _ _ _ l, add-one, rows-suc, map-append, drop-drop, append_snoc)

  pub read_all : (i : ℕ) (now : List A) → now ≡ read_to i → length items ≡ 8 → i ≡ 8 → now ≡ map f (rows width 8 (drop start w))
  unfolding read_to
  read_all i now e h g = e ∙ rw (g, drop_of_length-le items {i = 8} (omega arith)) (append-nil _)

-- ---- the fields of a row, in place
pub row_first : (width at : ℕ) (w : List ℕ) → 0 < width → get_or w at 0 ≡ get_or (part at width w) 0 0
unfolding part
row_first width at w h = rw (get_or-take width (drop at w) 0 0 h, get_or-drop, add-zero)

pub row_at : (width at j : ℕ) (w : List ℕ) → j < width → get_or w (at + j) 0 ≡ get_or (part at width w) j 0
unfolding part
row_at width at j w h = rw (get_or-take width (drop at w) j 0 h, get_or-drop)

pub drop-take : (k m : ℕ) (l : List ℕ) → drop k (take (k + m) l) ≡ take m (drop k l)
drop-take zero m l = rw zero-add
drop-take (suc k) m [] = simp take-nil
drop-take (suc k) m (x ∷ l) = rw suc-add (drop-take k m l)

-- the bytes of its last m words, written over an array of the same length
pub row-bytes : (k m at : ℕ) (w z : List ℕ) (n : ℕ) → n ≡ m → at + (k + m) ≤ length w → length z ≡ 8 * m →
    laid 0 (bytes_of (take n (drop (at + k) w))) z ≡ bytes_of (drop k (part at (k + m) w))
unfolding part
row-bytes k m at w z n e h l =
    let t : drop k (take (k + m) (drop at w)) ≡ take m (drop (at + k) w) = drop-take k m (drop at w) ∙ ap (take m) (drop-drop k at w) in
    let j : length (take m (drop (at + k) w)) ≡ m = length-take-le m (drop (at + k) w) (omega (arith, length-drop (at + k) w)) in
    rw (t, e) (laid-all (bytes_of (take m (drop (at + k) w))) z (bytes_of-length (take m (drop (at + k) w)) ∙ rw j (sym l)))

-- ---- rows written
pub splice-none : (at : ℕ) (s : List ℕ) → s ≡ splice at [] s
unfolding splice
splice-none at s = paste-zero s at []

-- one more word
pub put_next : (at : ℕ) (vs s : List ℕ) (x : ℕ) → at + length vs < length s →
    set (splice at vs s) (at + length vs) x ≡ splice at (vs ++ (x ∷ [])) s
unfolding splice
put_next at vs s x h =
    let l : length (take at s ++ vs) ≡ at + length vs = length-append (take at s) vs ∙
    ap (λ (n : ℕ). n + length vs) (length-take-le at s (omega arith)) in
    let e : at + length (vs ++ (x ∷ [])) ≡ suc (at + length vs) = omega (arith, length-append vs (x ∷ [])) in
    rw (drop-cons s (at + length vs) 0 h, set_at _ _ _ x _ l, e) (simp append_assoc)

pub put_first : (at : ℕ) (s : List ℕ) (x : ℕ) → at < length s → set s at x ≡ splice at (x ∷ []) s
put_first at s x h =
    ap (λ (k : ℕ). set s k x) (sym (add-zero at)) ∙ ap (λ l. set l (at + 0) x) (splice-none at s) ∙ put_next at [] s x (omega arith)

-- bytes as words
pub bytes-none : (at : ℕ) (bs s : List ℕ) → s ≡ splice at (words_of 0 bs) s
unfolding words_of
bytes-none at bs s = splice-none at s

pub bytes-more : (at i : ℕ) (bs s : List ℕ) → at + i < length s →
    set (splice at (words_of i bs) s) (at + i) (word_at (8 * i) bs) ≡ splice at (words_of (i + 1) bs) s
bytes-more at i bs s h =
    let l : length (words_of i bs) ≡ i = words_of-length i bs in
    rw (add-one, words_of-suc) (ap (λ (k : ℕ). set (splice at (words_of i bs) s) (at + k) (word_at (8 * i) bs)) (sym l) ∙
    put_next at (words_of i bs) s (word_at (8 * i) bs) (omega arith))

module _ (s : List ℕ) (at a b c : ℕ) where
  -- the first words of a row, stored one by one
  pub put_three : at + 3 ≤ length s → set (set (set s at a) (at + 1) b) (at + 2) c ≡ splice at (a ∷ b ∷ c ∷ []) s
  put_three h =
      ap (λ l. set (set l (at + 1) b) (at + 2) c) (put_first at s a (omega arith))
      ∙ ap (λ l. set l (at + 2) c) (put_next at (a ∷ []) s b (omega arith))
      ∙ put_next at (a ∷ b ∷ []) s c (omega arith)

  pub put_four : (d : ℕ) → at + 4 ≤ length s → set (set (set (set s at a) (at + 1) b) (at + 2) c) (at + 3) d ≡ splice at
      (a ∷ b ∷ c ∷ d ∷ []) s
  put_four d h = ap (λ l. set l (at + 3) d) (put_three (omega arith)) ∙ put_next at (a ∷ b ∷ c ∷ []) s d (omega arith)

module _ {A : Type 0} (f : A → List ℕ) where
  pub flat_append : (xs ys : List A) → flat f (xs ++ ys) ≡ flat f xs ++ flat f ys
  unfolding flat
  flat_append [] ys = refl
  flat_append (x ∷ xs) ys = rw (flat_append xs ys, append_assoc)

  pub flat-one : (x : A) → flat f (x ∷ []) ≡ f x
  unfolding flat
  flat-one x = append-nil (f x)

  pub flat-length : (width : ℕ) → ((x : A) → length (f x) ≡ width) → (l : List A) → length (flat f l) ≡ width * length l
  unfolding flat
  flat-length width wide [] = sym (mul-zero width)
  flat-length width wide (x ∷ l) = length-append (f x) (flat f l) ∙ rw (wide x, flat-length width wide l, mul-more)

-- ---- rows written over zeros
pub padded-length : (n : ℕ) (l : List ℕ) → length l ≤ n → length (padded n l) ≡ n
unfolding padded
padded-length n l h = length-append l (replicate (n - length l) 0) ∙ rw (length-replicate {A = ℕ} (n - length l) 0) (omega arith)

pub padded-in : (i n : ℕ) (a vs b : List ℕ) → length a ≡ i → length vs ≤ n →
    splice i vs ((a ++ replicate n 0) ++ b) ≡ (a ++ padded n vs) ++ b
unfolding splice padded
padded-in i n a vs b e h =
    let z : List ℕ = replicate (length vs) 0 in
    let y : List ℕ = replicate (n - length vs) 0 in
    let s : replicate n 0 ≡ z ++ y = sym (replicate-append-replicate (length vs) (n - length vs) 0 ∙
    ap (λ (k : ℕ). replicate k 0) (let j : length vs + (n - length vs) ≡ n = omega arith in j)) in
    let g : (a ++ replicate n 0) ++ b ≡ (a ++ z) ++ (y ++ b) = rw s (simp append_assoc) in
    let l : length (a ++ z) ≡ i + length vs = length-append a z ∙ rw (length-replicate {A = ℕ} (length vs) 0, e) in
    let t : take i ((a ++ replicate n 0) ++ b) ≡ a = rw append_assoc (take_at a _ i e) in
    let d : drop (i + length vs) ((a ++ replicate n 0) ++ b) ≡ y ++ b = rw g (drop_at (a ++ z) (y ++ b) _ l) in
    rw (t, d) (simp append_assoc)
