-- The loop over the banks: what is left to check and to add. Assumes nothing.
use Rattle.std.proofs.Common.{◌≡◌, ℕ, zero, suc, ◌+◌, ◌-◌, ◌*◌, ◌/◌, ◌%◌, ◌^◌, ◌<◌, ◌≤◌, Bool, true, false, List, [], ◌∷◌, get_or, length, take, drop, ap, length-drop, sym, refl, ◌∙◌, arith, ltb-true, le-ltb, lt-ltb, eqb-true, le-leb, leb-true, Option, Some, None, ltb}
use Rattle.std.specs.Option.{option_or}
use borrow.Author.Tests.{lt-leb}
use native.Mathlib.Decide.{dec_lt}
use native.Mathlib.Nat.{mul-zero, mul-suc}
use lib.Seq.{length-take-le, get_or-take, get_or-drop}
use Rattle.std.specs.Simd.{first_chunks}
use Rattle.words.specs.Tests.{both, Yes}
use Rattle.words.proofs.Tests.{both_l, both_r}
use Rattle.entries.specs.Entry.{bank_ok}
use Rattle.banks.specs.Banks.{Granules, Bank, banks_by, bank_at, bank_count, banks_of, follows, ascend, banks_ok, record_ok, total}
use Rattle.banks.specs.Banks.{granule_count}

-- ---- an address below the end of a bank, without the sum, which could overflow
pub below-end : (base size addr : ℕ) → base ≤ addr → ltb (addr - base) size ≡ ltb addr (base + size)
below-end base size addr h = go (dec_lt addr (base + size))
  where
    go : Dec (addr < base + size) → ltb (addr - base) size ≡ ltb addr (base + size)
    go (yes y) = rw (lt-ltb addr (base + size) y, lt-ltb (addr - base) size (omega arith))
    go (no n) = rw (le-ltb addr (base + size) (omega arith), le-ltb (addr - base) size (omega arith))

-- ---- a bank that follows
pub record Follows (low base size : ℕ) : Type 0 where
  pub after : low ≤ base
  pub base-whole : base % 4096 ≡ 0
  pub size-whole : size % 4096 ≡ 0
  pub some : 0 < size
  pub ends : base + size ≤ 2 ^ 52

pub follows_is : (low base size : ℕ) → Yes (follows low base size) → Follows low base size
unfolding follows bank_ok
follows_is low base size h =
    let h1 = both_r _ _ h in
    let h2 = both_r _ _ h1 in
    let h3 = both_r _ _ h2 in
    record {
      after = leb-true _ _ (both_l _ _ h);
      base-whole = eqb-true _ _ (both_l _ _ h1);
      size-whole = eqb-true _ _ (both_l _ _ h2);
      some = ltb-true _ _ (both_l _ _ h3);
      ends = leb-true _ _ (both_r _ _ h3);
    }

-- ---- the banks from bank i on
pub banks-more : (f : ℕ → Bank) (n i : ℕ) → i < n → banks_by f i (n - i) ≡ f i ∷ banks_by f (i + 1) (n - (i + 1))
unfolding banks_by
banks-more f n i h = go (n - i) refl
  where
    go : (k : ℕ) → n - i ≡ k → banks_by f i k ≡ f i ∷ banks_by f (i + 1) (n - (i + 1))
    go zero e = absurd (let z : ◌≡◌ {A = ℕ} 0 1 = omega arith in omega arith)
    go (suc k) e = let z : n - (i + 1) ≡ k = omega arith in let s : i + 1 ≡ suc i = omega arith in rw (z, s)

pub or_nothing : (p : Option ℕ) → option_or p None ≡ p
or_nothing (Some i) = refl
or_nothing None = refl

-- ---- the banks as pairs of words
-- the words of one chunk
chunk-at : (n k i j : ℕ) (ws : List ℕ) → i < k → j < n → get_or (get_or (first_chunks n k ws) i []) j 0 ≡ get_or ws (n * i + j) 0
chunk-at n zero i j ws h l = absurd (let z : ⊥ = omega arith in z)
chunk-at n (suc k) zero j ws h l = get_or-take n ws j 0 l ∙ ap (λ x. get_or ws x 0) (let z : j ≡ n * 0 + j = omega (arith, mul-zero n) in z)
chunk-at n (suc k) (suc i) j ws h l =
    chunk-at n k i j (drop n ws) (omega arith) l ∙ get_or-drop n ws (n * i + j) 0
    ∙ ap (λ x. get_or ws x 0) (let z : n + (n * i + j) ≡ n * suc i + j = omega (arith, mul-suc n i) in z)

module _ (g : Granules) (l : length g ≡ 33) (c : ℕ) (m : c ≤ 16) (pairs : List (List ℕ))
    (e : pairs ≡ first_chunks 2 (length (take 32 (drop 1 g)) / 2) (take 32 (drop 1 g))) where
  sixteen : length (take 32 (drop 1 g)) / 2 ≡ 16
  sixteen = let z : length (take 32 (drop 1 g)) ≡ 32 = length-take-le 32 (drop 1 g) (omega (arith, length-drop 1 g)) in rw z

  pair_word : (i j : ℕ) → i < c → j < 2 → get_or (get_or (take c pairs) i []) j 0 ≡ get_or g (1 + 2 * i + j) 0
  pair_word i j h k =
      ap (λ p. get_or p j 0) (get_or-take c pairs i [] h) ∙
      rw e (chunk-at 2 (length (take 32 (drop 1 g)) / 2) i j (take 32 (drop 1 g)) (omega (arith, sixteen)) k) ∙
      get_or-take 32 (drop 1 g) (2 * i + j) 0 (omega arith) ∙ get_or-drop 1 g (2 * i + j) 0 ∙
      ap (λ x. get_or g x 0) (let z : 1 + (2 * i + j) ≡ 1 + 2 * i + j = omega arith in z)

  pub pair-base : (i : ℕ) → i < c → get_or (get_or (take c pairs) i []) 0 0 ≡ get_or g (1 + 2 * i) 0
  pair-base i h = pair_word i 0 h (omega arith) ∙ ap (λ x. get_or g x 0) (let z : 1 + 2 * i + 0 ≡ 1 + 2 * i = omega arith in z)

  pub pair-size : (i : ℕ) → i < c → get_or (get_or (take c pairs) i []) 1 0 ≡ get_or g (2 + 2 * i) 0
  pair-size i h = pair_word i 1 h (omega arith) ∙ ap (λ x. get_or g x 0) (let z : 1 + 2 * i + 1 ≡ 2 + 2 * i = omega arith in z)

  pub pairs-many : length pairs ≡ length (take 32 (drop 1 g)) / 2 → length (take c pairs) ≡ c
  pairs-many n = length-take-le c pairs (omega (arith, n, sixteen))

-- ---- the loop before bank i: the result depends on what is left
abbrev pub banks_from : List ℕ → ℕ → List Bank
banks_from g i = banks_by (bank_at g) i (bank_count g - i)

pub left-more : (g : Granules) (i : ℕ) → i < bank_count g → banks_from g i ≡ bank_at g i ∷ banks_from g (i + 1)
left-more g i h = banks-more (bank_at g) (bank_count g) i h

pub left-none : (g : Granules) (i : ℕ) → bank_count g ≤ i → banks_from g i ≡ []
unfolding banks_by
left-none g i h = let z : bank_count g - i ≡ 0 = omega arith in rw z

pub left-all : (g : Granules) → banks_from g 0 ≡ banks_of g
left-all g = let z : bank_count g - 0 ≡ bank_count g = omega arith in rw z

pub record Stage (g : Granules) (i low sum : ℕ) : Type 0 where
  pub end_fits : low ≤ 2 ^ 52
  pub count_fits : 4096 * sum ≤ low
  pub judged : ascend 0 (banks_of g) ≡ ascend low (banks_from g i)
  pub counted : total (banks_of g) ≡ sum + total (banks_from g i)

pub stage-first : (g : Granules) → Stage g 0 0 0
stage-first g =
    let z : bank_count g - 0 ≡ bank_count g = omega arith in
    record { end_fits = omega arith; count_fits = omega arith; judged = rw z; counted = rw z (omega arith) }

-- ---- what the loop returns
both-none : (a b : Bool) → both a (both b false) ≡ false
unfolding both
both-none true true = refl
both-none true false = refl
both-none false b = refl

module _ (g : Granules) where
  pub refused : record_ok g ≡ false → 0 ≡ granule_count g
  unfolding granule_count
  refused h = rw h

  pub many-refused : 16 < bank_count g → record_ok g ≡ false
  unfolding record_ok banks_ok both
  many-refused h = simp (lt-ltb 0 (bank_count g) (omega arith), lt-leb (bank_count g) 16 h)

  pub badly-refused : ascend 0 (banks_of g) ≡ false → record_ok g ≡ false
  unfolding record_ok banks_ok
  badly-refused h = rw h (both-none _ _)

  none-refused : bank_count g ≡ 0 → record_ok g ≡ false
  unfolding record_ok banks_ok both
  none-refused e = simp (le-ltb 0 (bank_count g) (omega arith))

  none-total : bank_count g ≡ 0 → total (banks_of g) ≡ 0
  unfolding banks_by total
  none-total e = rw e

  pub passed : (n : ℕ) → bank_count g ≤ 16 → Yes (ascend 0 (banks_of g)) → total (banks_of g) ≡ n → n ≡ granule_count g
  unfolding granule_count record_ok banks_ok both
  passed n m a t = go (bank_count g) refl
    where
      go : (k : ℕ) → bank_count g ≡ k → n ≡ granule_count g
      go zero e = sym t ∙ none-total e ∙ refused (none-refused e)
      go (suc k) e = simp (lt-ltb 0 (bank_count g) (omega arith), le-leb (bank_count g) 16 m, a) (sym t)

module _ (g : Granules) (i low sum : ℕ) (s : Stage g i low sum) where
  -- no bank is left
  module _ (h : bank_count g ≤ i) where
    none_left : banks_from g i ≡ []
    none_left = left-none g i h

    pub stage-judged : Yes (ascend 0 (banks_of g))
    unfolding ascend
    stage-judged = s.judged ∙ rw none_left

    pub stage-counted : total (banks_of g) ≡ sum
    unfolding total
    stage-counted = s.counted ∙ rw none_left (omega arith)

  -- one more bank, with its two words as the code reads them
  module _ (base size : ℕ) (h : i < bank_count g) (b : base ≡ get_or g (1 + 2 * i) 0) (z : size ≡ get_or g (2 + 2 * i) 0) where
    one_left : banks_from g i ≡ record { base = base; size = size } ∷ banks_from g (i + 1)
    one_left = left-more g i h ∙ rw (b, z)

    pub stage-more : Yes (follows low base size) → Stage g (i + 1) (base + size) (sum + size / 4096)
    unfolding ascend both total
    stage-more y =
        let f : Follows low base size = follows_is low base size y in
        let e = s.count_fits in
        record {
          end_fits = f.ends;
          count_fits = omega arith;
          judged = s.judged ∙ rw (one_left, y);
          counted = s.counted ∙ rw one_left (omega arith);
        }

    pub stage-stops : follows low base size ≡ false → ascend 0 (banks_of g) ≡ false
    unfolding ascend both
    stage-stops n = s.judged ∙ rw (one_left, n)
