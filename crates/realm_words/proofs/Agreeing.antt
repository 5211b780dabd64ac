-- Words built from a table, and compared with it, in the loops. Assumes nothing.
use Prim.Native.Nat.{ℕ, suc, ◌+◌, ◌-◌, ◌*◌, ◌<◌}
use mathlib.Core.Path.{◌≡◌, refl}
use mathlib.Core.Bool.{Bool, true, false, false≢true}
use mathlib.Core.List.{List, [], ◌∷◌, ◌++◌, append_assoc, append-nil}
use native.Mathlib.Omega.{arith}
use native.Mathlib.Numerals.{add-one}
use lib.ListN.{length, get_or, set, drop}
use lib.Seq.{drop-cons, drop-length, set_at}
use borrow.Author.Tests.{eqb-true, eq-eqb, ne_eqb}
use Rattle.words.specs.Tests.{both, Yes}
use Rattle.words.proofs.Tests.{both_l, both_r}
use Rattle.realm_words.specs.Bits.{packed_to, words_for, realm_words}
use Rattle.realm_words.specs.Answers.{both_fit, same_words}
use Rattle.realm_words.proofs.Packing.{word_from, words-length, words_last, words-first}

-- ---- built, from the front
pub build-none : (t ws : List ℕ) → ws ≡ packed_to 0 t ++ drop 0 ws
unfolding packed_to
build-none t ws = refl

pub build-more : (t ws : List ℕ) (i w : ℕ) → i < length ws → w ≡ word_from t i →
    set (packed_to i t ++ drop i ws) i w ≡ packed_to (i + 1) t ++ drop (i + 1) ws
build-more t ws i w h e =
    rw (add-one, words_last i t, append_assoc, drop-cons ws i 0 h, e)
    (set_at (packed_to i t) (get_or ws i 0) (drop (suc i) ws) (word_from t i) i (words-length i t))

pub build-last : (t ws : List ℕ) (i : ℕ) → i ≡ length ws → length ws ≡ words_for (length t) → packed_to i t ++ drop i ws ≡ realm_words t
build-last t ws i e f = rw (e, drop-length, append-nil, f)

-- ---- compared, from the front
abbrev pub rest : List ℕ → List ℕ → ℕ → Bool
rest ws t i = same_words (drop i ws) (packed_to (length ws - i) (drop (i * 64) t))

pub agree-first : (ws t : List ℕ) → length ws ≡ words_for (length t) → same_words ws (realm_words t) ≡ rest ws t 0
agree-first ws t f = let e : length ws - 0 ≡ words_for (length t) = omega arith in rw e

pub agree-more : (ws t : List ℕ) (i : ℕ) → i < length ws → get_or ws i 0 ≡ word_from t i → rest ws t i ≡ rest ws t (i + 1)
unfolding same_words both
agree-more ws t i h e =
    rw (words-first (length ws) i t h, drop-cons ws i 0 h, eq-eqb (get_or ws i 0) (word_from t i) e, add-one)

pub agree-not : (ws t : List ℕ) (i : ℕ) → i < length ws → (get_or ws i 0 ≡ word_from t i → ⊥) → rest ws t i ≡ false
unfolding same_words both
agree-not ws t i h n = rw (words-first (length ws) i t h, drop-cons ws i 0 h, ne_eqb (get_or ws i 0) (word_from t i) n)

pub agree-last : (ws t : List ℕ) (i : ℕ) → i ≡ length ws → rest ws t i ≡ true
unfolding same_words packed_to
agree-last ws t i e = let z : length ws - i ≡ 0 = omega arith in rw (z, e, drop-length)

-- ---- the sizes
pub record Fits (t ws : List ℕ) (n : ℕ) : Type 0 where
  pub words-fit : length ws ≡ words_for n
  pub table-fit : length t ≡ n

pub fits : (t ws : List ℕ) (n : ℕ) → Yes (both_fit t ws n) → Fits t ws n
fits t ws n h = record { words-fit = eqb-true _ _ (both_l _ _ h); table-fit = eqb-true _ _ (both_r _ _ h) }

-- ---- agreement means equality
pub same-is : (xs ys : List ℕ) → Yes (same_words xs ys) → xs ≡ ys
unfolding same_words
same-is [] [] h = refl
same-is [] (y ∷ ys) h = absurd (false≢true h)
same-is (x ∷ xs) [] h = absurd (false≢true h)
same-is (x ∷ xs) (y ∷ ys) h = rw (eqb-true x y (both_l _ _ h), same-is xs ys (both_r _ _ h))

pub is_same : (xs : List ℕ) → Yes (same_words xs xs)
unfolding same_words both
is_same [] = refl
is_same (x ∷ xs) = rw (eq-eqb x x refl) (is_same xs)
