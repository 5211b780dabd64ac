-- Entries by their offset in the page, for the loops, and that this equals the rules of their words. Assumes nothing.
use Rattle.std.proofs.Common.{◌≡◌, ℕ, zero, suc, ◌+◌, ◌-◌, ◌*◌, ◌%◌, ◌^◌, ◌<◌, ◌≤◌, Bool, true, false, eqb, leb, List, Option, MatchOption, [], ◌∷◌, ◌++◌, get_or, sym, subst, refl, ap, ◌∙◌, add-zero, mul-le-mul_left, mul-suc, add-one, arith, lt-ltb, eq-eqb, leb-true}
use Rattle.words.specs.Tests.{both}
use Rattle.words.proofs.Tests.{both_false, every-none, every-same}
use Rattle.std.specs.Bool.{then_some}
use Rattle.words.specs.Word.{part, word_at, words_of}
use Rattle.words.proofs.Read.{words_of-at, words_of-suc, num-part}
use Rattle.entries.specs.Entry.{words_per_entry, size, entry_ok, entries_ok, sum, check_ok}
use Rattle.entries.specs.Array.{words_at, sound_of, entry_place}
use Rattle.entries.specs.Steps.{entry_at, entries_at, sum_at}

-- ---- the number of words in an entry
pub per-one : words_per_entry 1 ≡ 6
unfolding words_per_entry
per-one = refl

pub per-other : (k : ℕ) → (k ≡ 1 → ⊥) → words_per_entry k ≡ 2
unfolding words_per_entry
per-other zero h = refl
per-other (suc zero) h = absurd (h refl)
per-other (suc (suc k)) h = refl

pub per-range : (k : ℕ) → (2 ≤ words_per_entry k) × (words_per_entry k ≤ 6)
unfolding words_per_entry
per-range zero = omega arith
per-range (suc zero) = omega arith
per-range (suc (suc k)) = omega arith

-- the size of c consoles, and of c banks or regions
pub size-one : (c : ℕ) → size 1 c ≡ 48 * c
unfolding size words_per_entry
size-one c = omega arith

pub size-other : (k c : ℕ) → (k ≡ 1 → ⊥) → size k c ≡ 16 * c
unfolding size
size-other k c h = rw (per-other k h) (omega arith)

-- an array that fits between an offset and the page's end ends within the page; w is the number of words that the code uses
pub fits-end : (k c at n w : ℕ) (b : Bool) → w ≡ words_per_entry k → b ≡ leb (size k c) (n - at) → b ≡ true → at ≤ n → at + 8 * (w * c) ≤ n
unfolding size
fits-end k c at n w b e f g h =
    let s : 8 * (words_per_entry k * c) ≤ n - at = leb-true _ _ (sym f ∙ g) in
    let z : w * c ≡ words_per_entry k * c = rw e in
    omega arith

-- ---- entries in place
pub entries_none : (w k at : ℕ) (page : List ℕ) → entries_at w k at 0 page ≡ true
unfolding entries_at
entries_none w k at page = every-none (λ i. entry_at w k (entry_place k at i) page)

-- ---- a word of the array is a word of the page
module _ (k at i count : ℕ) (page : List ℕ) (h : i < count) where
  pub word-in : (j : ℕ) → j < words_per_entry k → get_or (words_at k count at page) (words_per_entry k * i + j) 0 ≡ word_at
      (entry_place k at i + 8 * j) page
  unfolding words_at size entry_place
  word-in j l =
      let m : words_per_entry k * i + j < words_per_entry k * count = omega
      (arith, mul-suc (words_per_entry k) i, mul-le-mul_left (words_per_entry k) h) in
      words_of-at (words_per_entry k * count) (part at (8 * (words_per_entry k * count)) page) (words_per_entry k * i + j) m
      ∙ num-part 8 at (8 * (words_per_entry k * count)) (8 * (words_per_entry k * i + j)) page (omega arith)
      ∙ ap (λ x. word_at x page) (let e : at + 8 * (words_per_entry k * i + j) ≡ at + 8 * (words_per_entry k * i) + 8 * j = omega arith in e)

  first-in : get_or (words_at k count at page) (words_per_entry k * i) 0 ≡ word_at (entry_place k at i) page
  first-in = let p = (per-range k).0 in simp add-zero at (word-in 0 (omega arith))

  entry-same : (w : ℕ) → entry_ok w k (words_at k count at page) (words_per_entry k * i) ≡ entry_at w k (entry_place k at i) page
  unfolding entry_ok entry_at
  entry-same w = let p = (per-range k).0 in rw (first-in, word-in 1 (omega arith), word-in (words_per_entry k - 1) (omega arith))

pub entries-same : (w k at count : ℕ) (page : List ℕ) → entries_ok w k count (words_at k count at page) ≡ entries_at w k at count page
unfolding entries_ok entries_at
entries-same w k at count page =
    every-same count (λ i. entry_ok w k (words_at k count at page) (words_per_entry k * i)) (λ i. entry_at w k (entry_place k at i) page)
    (λ i h. entry-same k at i count page h w)

-- ---- the sum of an array's words
pub sum-words : (k at count : ℕ) (page : List ℕ) → sum_at at (words_per_entry k * count) page ≡ sum (words_at k count at page)
unfolding sum_at words_at size
sum-words k at count page = refl

pub sum-snoc : (xs : List ℕ) (y : ℕ) → sum (xs ++ (y ∷ [])) ≡ sum xs + y
unfolding sum
sum-snoc [] y = omega arith
sum-snoc (x ∷ xs) y = rw (sum-snoc xs y) (omega arith)

-- one more word
pub sum_step : (page : List ℕ) (at off i m acc w r : ℕ) → 8 * (i + 1) ≤ m → off ≡ at + 8 * i →
    acc ≡ sum (words_of i (part at m page)) % 2 ^ 64 → w ≡ word_at off page →
    r ≡ (acc + w) % 2 ^ 64 → r ≡ sum (words_of (i + 1) (part at m page)) % 2 ^ 64
sum_step page at off i m acc w r h o e f g =
    let k : w ≡ word_at (at + 8 * i) page = rw o at f in
    rw (add-one, words_of-suc, sum-snoc, num-part 8 at m (8 * i) page (omega arith), ← k) (omega arith)

-- one more bank
pub sum-bank : (page : List ℕ) (at off i m acc x y t r : ℕ) → 16 * (i + 1) ≤ m → off ≡ at + 16 * i →
    acc ≡ sum (words_of (2 * i) (part at m page)) % 2 ^ 64 →
    x ≡ word_at off page → y ≡ word_at (off + 8) page → t ≡ (acc + x) % 2 ^ 64 → r ≡ (t + y) % 2 ^ 64 →
    r ≡ sum (words_of (2 * (i + 1)) (part at m page)) % 2 ^ 64
sum-bank page at off i m acc x y t r h o e f g u v =
    let one : t ≡ sum (words_of (2 * i + 1) (part at m page)) % 2 ^ 64 = sum_step page at off (2 * i) m acc x t (omega arith)
    (omega arith) e f u in
    let two : r ≡ sum (words_of (2 * i + 1 + 1) (part at m page)) % 2 ^ 64 = sum_step page at (off + 8) (2 * i + 1) m t y r (omega arith)
    (omega arith) one g v in
    two ∙ ap (λ n. sum (words_of n (part at m page)) % 2 ^ 64) (let z : 2 * i + 1 + 1 ≡ 2 * (i + 1) = omega arith in z)

-- what holds for n entries holds for the section's count, if n is that count
module _ (w k at n count : ℕ) (page : List ℕ) (s : ℕ) (ok : Bool) where
  pub consoles-found : k ≡ 1 → n ≡ count → (s ≡ sum_at at (6 * n) page % 2 ^ 64) × (ok ≡ entries_at w 1 at n page) →
      (s ≡ sum_at at (words_per_entry k * count) page % 2 ^ 64) × (ok ≡ entries_at w k at count page)
  consoles-found h e f =
      let p : words_per_entry k ≡ 6 = ap words_per_entry h ∙ per-one in
      rw (p, ← e) (f.0, f.1 ∙ sym (ap (λ x. entries_at w x at n page) h))

-- a value that is there if a test holds
pub told-if : (b e : Bool) (x s : ℕ) (o : Option ℕ) → o ≡ then_some b x → b ≡ e → x ≡ s → MatchOption o (e ≡ false) (λ y. (e ≡ true) × (y ≡ s))
told-if true e x s o p q h = subst (λ r. MatchOption r (e ≡ false) (λ y. (e ≡ true) × (y ≡ s))) (sym p) (sym q, h)
told-if false e x s o p q h = subst (λ r. MatchOption r (e ≡ false) (λ y. (e ≡ true) × (y ≡ s))) (sym p) (sym q)

-- sums that wrap
pub mod-left : (a b : ℕ) → (a % 2 ^ 64 + b) % 2 ^ 64 ≡ (a + b) % 2 ^ 64
mod-left a b = omega arith

pub mod-right : (a b : ℕ) → (a + b % 2 ^ 64) % 2 ^ 64 ≡ (a + b) % 2 ^ 64
mod-right a b = omega arith

-- the total of a section, added in three steps
total-law : (c p s k x h m t : ℕ) → x ≡ s % 2 ^ 64 → h ≡ (c + p) % 2 ^ 64 → m ≡ (x + k) % 2 ^ 64 → t ≡ (h + m) % 2 ^ 64 →
    t ≡ (c + p + s + k) % 2 ^ 64
total-law c p s k x h m t a b d e =
    e ∙ rw (
      b,
      d,
      a,
      mod-left s k,
      mod-left (c + p) ((s + k) % 2 ^ 64),
      mod-right (c + p) (s + k),
      let f : c + p + s + k ≡ c + p + (s + k) = omega arith in f,
    )

pub not-zero : (n : ℕ) → (n ≡ 0 → ⊥) → 0 < n
not-zero n h = omega arith

both_true : (a : Bool) → both a true ≡ a
unfolding both
both_true true = refl
both_true false = refl

-- the rule of an array, given the sums that the code computed
module _ (w k at c p s : ℕ) (page : List ℕ) (n : c ≡ 0 → ⊥) (z : p % 8 ≡ 0) where
  pub told-unsound : entries_at w k at c page ≡ false → false ≡ sound_of w k c p s (words_at k c at page)
  unfolding sound_of both
  told-unsound e = rw (lt-ltb 0 c (not-zero c n), eq-eqb (p % 8) 0 z, entries-same w k at c page, e) (sym (both_false _))

  module _ (x h m t : ℕ) (cx : x ≡ sum_at at (words_per_entry k * c) page % 2 ^ 64)
      (ch : h ≡ (c + p) % 2 ^ 64) (cm : m ≡ (x + s) % 2 ^ 64) (ct : t ≡ (h + m) % 2 ^ 64) where
    total : t ≡ (c + p + sum (words_at k c at page) + s) % 2 ^ 64
    total = total-law c p (sum (words_at k c at page)) s x h m t (cx ∙ ap (λ y. y % 2 ^ 64) (sum-words k at c page)) ch cm ct

    pub told-sound : entries_at w k at c page ≡ true → eqb t 0 ≡ sound_of w k c p s (words_at k c at page)
    unfolding sound_of check_ok both
    told-sound e =
        rw (lt-ltb 0 c (not-zero c n), eq-eqb (p % 8) 0 z, entries-same w k at c page, e)
        (ap (λ y. eqb y 0) total ∙ sym (both_true (eqb ((c + p + sum (words_at k c at page) + s) % 2 ^ 64) 0)))
