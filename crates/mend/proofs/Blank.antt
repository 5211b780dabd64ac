-- Bytes set to zero, and the core's parts. Assumes nothing.
use Prim.Native.Nat.{ℕ, zero, suc, ◌+◌, ◌-◌, ◌≤◌, ◌<◌}
use mathlib.Core.Bool.{Bool, true, false, cond}
use mathlib.Core.Path.{◌≡◌, refl, sym, ap, ◌∙◌}
use mathlib.Core.List.{List, [], ◌∷◌, ◌++◌}
use native.Mathlib.Omega.{arith}
use native.Mathlib.Decide.{dec_lt}
use native.Mathlib.Nat.{not-suc-le-zero}
use lib.ListN.{length, take, drop, get_or, length-take, length-append, get_or-eq_default, get_or-append}
use lib.Seq.{ext_get_or, get_or-take, get_or-drop, get_or-append-add, length-take-le}
use lib.Dec.{leb, ltb}
use borrow.Author.Tests.{leb-true, ltb-true, lt-ltb, le-leb, lt-leb, le-ltb}
use Rattle.words.specs.Tests.{Yes, both, either}
use Rattle.words.specs.Word.{le_of, part, splice}
use Rattle.words.proofs.Tests.{both_l, both_r, both_of}
use Rattle.words.proofs.Store.{length-splice, bytes-in, drop-splice}
use Rattle.fields.proofs.Rules.{either-false}
use Rattle.mend.specs.Mend.{part_at, of_part, blank}
use Rattle.mend.specs.Steps.{zeroed}

-- ---- bytes set to zero
pub blank-length : (f : ℕ → Bool) (bs : List ℕ) → length (blank f bs) ≡ length bs
unfolding blank
blank-length f [] = refl
blank-length f (b ∷ bs) = ap suc (blank-length (λ i. f (suc i)) bs)

pub blank-at : (f : ℕ → Bool) (bs : List ℕ) (i : ℕ) → get_or (blank f bs) i 0 ≡ cond (f i) 0 (get_or bs i 0)
unfolding blank
blank-at f [] i = zero-both (f i)
  where
    zero-both : (b : Bool) → ◌≡◌ {A = ℕ} 0 (cond b 0 0)
    zero-both true = refl
    zero-both false = refl
blank-at f (b ∷ bs) zero = refl
blank-at f (b ∷ bs) (suc i) = blank-at (λ i. f (suc i)) bs i

pub blank_none : (f : ℕ → Bool) (bs : List ℕ) → ((i : ℕ) → f i ≡ false) → blank f bs ≡ bs
blank_none f bs h = ext_get_or 0 (blank f bs) bs (blank-length f bs) (λ i l. rw (blank-at f bs i, h i))

le_of-zero : (bs : List ℕ) → ((i : ℕ) → get_or bs i 0 ≡ 0) → le_of bs ≡ 0
unfolding le_of
le_of-zero [] h = refl
le_of-zero (b ∷ bs) h = let a : b ≡ 0 = h 0 in let r = le_of-zero bs (λ i. h (suc i)) in omega arith

-- a number of zero bytes
pub part-zero : (off n : ℕ) (p : List ℕ) → ((i : ℕ) → off ≤ i → i < off + n → get_or p i 0 ≡ 0) → le_of (part off n p) ≡ 0
unfolding part
part-zero off n p h = le_of-zero (take n (drop off p)) (λ i. go i (dec_lt i n))
  where
    go : (i : ℕ) → Dec (i < n) → get_or (take n (drop off p)) i 0 ≡ 0
    go i (yes l) = simp (get_or-take, get_or-drop) (h (off + i) (omega arith) (omega arith))
    go i (no l) = get_or-eq_default (take n (drop off p)) 0 (rw length-take (omega arith))

-- ---- the bounds of a part; a byte belongs to one part only
part-grows : (j : ℕ) → part_at j ≤ part_at (suc j)
unfolding part_at
part-grows zero = omega arith
part-grows (suc zero) = omega arith
part-grows (suc (suc k)) = omega arith

part-before : (j k : ℕ) → j < k → part_at (suc j) ≤ part_at k
part-before j zero h = absurd (not-suc-le-zero h)
part-before j (suc k) h = go (dec_lt j k) (part-before j k)
  where
    go : Dec (j < k) → (j < k → part_at (suc j) ≤ part_at k) → part_at (suc j) ≤ part_at (suc k)
    go (yes l) r = let a = r l in let b = part-grows k in omega arith
    go (no l) r = rw (let z : j ≡ k = omega arith in z) (omega arith)

pub part-bounds : (j i : ℕ) → Yes (of_part j i) → (part_at j ≤ i) × (i < part_at (suc j))
unfolding of_part
part-bounds j i h = (leb-true _ _ (both_l _ _ h), ltb-true _ _ (both_r _ _ h))

pub part_of : (j i : ℕ) → part_at j ≤ i → i < part_at (suc j) → Yes (of_part j i)
unfolding of_part
part_of j i a b = both_of _ _ (le-leb _ _ a) (lt-ltb _ _ b)

pub one-part : (j k i : ℕ) → Yes (of_part j i) → Yes (of_part k i) → j ≡ k
one-part j k i a b = go (dec_lt j k) (dec_lt k j)
  where
    x : (part_at j ≤ i) × (i < part_at (suc j))
    x = part-bounds j i a

    y : (part_at k ≤ i) × (i < part_at (suc k))
    y = part-bounds k i b

    go : Dec (j < k) → Dec (k < j) → j ≡ k
    go (yes l) d = let n = part-before j k l in absurd (let z : ⊥ = omega (arith, x, y) in z)
    go (no l) (yes m) = let n = part-before k j m in absurd (let z : ⊥ = omega (arith, x, y) in z)
    go (no l) (no m) = omega arith

-- ---- zero bytes put at an offset, byte by byte
module _ (at : ℕ) (vs s : List ℕ) (h : at + length vs ≤ length s) (z : (i : ℕ) → get_or vs i 0 ≡ 0) where
  front : length (take at s) ≡ at
  front = length-take-le at s (omega arith)

  splice-low : (i : ℕ) → i < at → get_or (splice at vs s) i 0 ≡ get_or s i 0
  unfolding splice
  splice-low i l =
      get_or-append (take at s ++ vs) (drop (at + length vs) s) 0 i (rw (length-append, front) (omega arith))
      ∙ get_or-append (take at s) vs 0 i (rw front l) ∙ get_or-take at s i 0 l

  splice-mid : (i : ℕ) → at ≤ i → i < at + length vs → get_or (splice at vs s) i 0 ≡ 0
  unfolding splice
  splice-mid i l m =
      get_or-append (take at s ++ vs) (drop (at + length vs) s) 0 i (rw (length-append, front) (omega arith))
      ∙ ap (λ (j : ℕ). get_or (take at s ++ vs) j 0) (let e : i ≡ length (take at s) + (i - at) = omega (arith, front) in e)
      ∙ get_or-append-add (take at s) vs (i - at) 0 ∙ z (i - at)

  splice-high : (i : ℕ) → at + length vs ≤ i → get_or (splice at vs s) i 0 ≡ get_or s i 0
  splice-high i l =
      ap (λ (j : ℕ). get_or (splice at vs s) j 0) (let e : i ≡ at + length vs + (i - (at + length vs)) = omega arith in e)
      ∙ sym (get_or-drop (at + length vs) (splice at vs s) (i - (at + length vs)) 0)
      ∙ ap (λ (t : List ℕ). get_or t (i - (at + length vs)) 0) (drop-splice at vs s (omega arith))
      ∙ get_or-drop (at + length vs) s (i - (at + length vs)) 0
      ∙ ap (λ (j : ℕ). get_or s j 0) (let e : at + length vs + (i - (at + length vs)) ≡ i = omega arith in e)

  splice-blank : splice at vs s ≡ blank (λ i. both (leb at i) (ltb i (at + length vs))) s
  unfolding both
  splice-blank =
      ext_get_or 0 (splice at vs s) _ (length-splice at vs s h ∙ sym (blank-length _ s))
      (λ i l. rw (blank-at (λ i. both (leb at i) (ltb i (at + length vs))) s i) (go i (dec_lt i at) (dec_lt i (at + length vs))))
    where
      go : (i : ℕ) → Dec (i < at) → Dec (i < at + length vs) →
          get_or (splice at vs s) i 0 ≡ cond (both (leb at i) (ltb i (at + length vs))) 0 (get_or s i 0)
      go i (yes l) d = rw (lt-leb at i l) (splice-low i l)
      go i (no l) (yes m) = rw (le-leb at i (omega arith), lt-ltb i (at + length vs) m) (splice-mid i (omega arith) m)
      go i (no l) (no m) = rw (le-leb at i (omega arith), le-ltb i (at + length vs) (omega arith)) (splice-high i (omega arith))

cond-twice : (a b : Bool) (n : ℕ) → cond b 0 (cond a 0 n) ≡ cond (either a b) 0 n
unfolding either
cond-twice true true n = refl
cond-twice true false n = refl
cond-twice false b n = refl

-- a part zeroed next to others
pub zeroed-blank : (b : Bool) (j : ℕ) (vs : List ℕ) (f : ℕ → Bool) (page : List ℕ) → length vs ≡ part_at (suc j) - part_at j →
    part_at (suc j) ≤ length page → ((i : ℕ) → get_or vs i 0 ≡ 0) →
    zeroed b (part_at j) vs (blank f page) ≡ blank (λ i. either (f i) (both b (of_part j i))) page
unfolding zeroed both of_part
zeroed-blank false j vs f page l h z =
    ext_get_or 0 _ _ (blank-length f page ∙ sym (blank-length _ page))
    (λ i m. rw (blank-at f page i, blank-at (λ i. either (f i) false) page i, either-false (f i)))
zeroed-blank true j vs f page l h z =
    bytes-in (part_at j) vs (blank f page) (rw blank-length (omega (arith, part-grows j)))
    ∙ splice-blank (part_at j) vs (blank f page) (rw blank-length (omega (arith, part-grows j))) z
    ∙ ext_get_or 0 _ _ (blank-length _ _ ∙ blank-length f page ∙ sym (blank-length _ page)) (λ i m. same i)
  where
    e : part_at j + length vs ≡ part_at (suc j)
    e = omega (arith, part-grows j)

    same : (i : ℕ) → get_or (blank (λ i. both (leb (part_at j) i) (ltb i (part_at j + length vs))) (blank f page)) i 0 ≡ get_or
        (blank (λ i. either (f i) (of_part j i)) page) i 0
    same i =
        rw (
          e,
          blank-at (λ i. both (leb (part_at j) i) (ltb i (part_at (suc j)))) (blank f page) i,
          blank-at f page i,
          blank-at (λ i. either (f i) (both (leb (part_at j) i) (ltb i (part_at (suc j))))) page i,
        )
        (cond-twice (f i) (both (leb (part_at j) i) (ltb i (part_at (suc j)))) (get_or page i 0))
