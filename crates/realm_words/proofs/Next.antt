-- Request E6: "the first one at or after an index": what follows from each of the three answers, and when it is given, in plain facts.
-- Assumes nothing.
use Prim.Native.Nat.{ℕ, zero, suc, ◌+◌, ◌-◌, ◌/◌, ◌≤◌, ◌<◌}
use mathlib.Core.Path.{◌≡◌, refl, sym, ap, ◌∙◌}
use mathlib.Core.Bool.{Bool, true, false, cond}
use mathlib.Core.List.{List}
use native.Mathlib.Omega.{arith}
use native.Mathlib.Decide.{dec_lt}
use lib.ListN.{length}
use lib.Dec.{eqb, ltb}
use borrow.Author.Tests.{lt-ltb, eq-eqb, eqb-true, eqb-false, ltb-true}
use Rattle.words.specs.Tests.{both, Yes}
use Rattle.words.proofs.Tests.{both_l, both_r, both_of}
use Rattle.std.specs.Prelude.{Option, Some, None, Result}
use Rattle.realm_words.specs.declared.Inval.{Inval}
use Rattle.realm_words.specs.Bits.{bit_at, words_for}
use Rattle.realm_words.specs.Answers.{inval, words_fit, first_marked, realm_next_of, FirstAt, NoneFrom}

-- ---- different answers differ
at-nothing : (j : ℕ) → Some j ≡ None → ⊥
at-nothing j h = let z : ◌≡◌ {A = ℕ} 0 1 = cc in omega arith

inval-not : (h : Option ℕ) → ◌≡◌ {A = Result (Option ℕ) Inval} (Result.Err inval) (Result.Ok h) → ⊥
inval-not h e = let z : ◌≡◌ {A = ℕ} 0 1 = cc in omega arith

same-ok : (h k : Option ℕ) → ◌≡◌ {A = Result (Option ℕ) Inval} (Result.Ok h) (Result.Ok k) → h ≡ k
same-ok h k e = cc

-- ---- the search, step by step
first-at : (f : ℕ → ℕ) (k i j : ℕ) → first_marked f k i ≡ Some j → FirstAt f (i + k) i j
unfolding first_marked
first-at f zero i j h = absurd (at-nothing j (sym h))
first-at f (suc k) i j h = go (eqb (f i) 1) refl h (first-at f k (suc i) j)
  where
    later : (m : ℕ) → eqb (f i) 1 ≡ false → FirstAt f (suc i + k) (suc i) j → i ≤ m → m < j → f m ≡ 1 → Dec (i < m) → ⊥
    later m e r a b c (yes y) = r.before m (omega arith) b c
    later m e r a b c (no y) = let s : m ≡ i = omega arith in eqb-false (f i) 1 e (ap f (sym s) ∙ c)

    go : (b : Bool) → eqb (f i) 1 ≡ b → cond b (Some i) (first_marked f k (suc i)) ≡ Some j → (first_marked f k (suc i) ≡ Some j → FirstAt f (suc i + k) (suc i) j) → FirstAt f (i + suc k) i j
    go true e q ih =
        let s : i ≡ j = cc in
        record {
          from = omega arith;
          below = omega arith;
          marks = ap f (sym s) ∙ eqb-true (f i) 1 e;
          before = λ m a b. absurd (omega arith);
        }
    go false e q ih =
        let r = ih q in
        record {
          from = omega (arith, r.from);
          below = omega (arith, r.below);
          marks = r.marks;
          before = λ m a b c. later m e r a b c (dec_lt i m);
        }

first-none : (f : ℕ → ℕ) (k i : ℕ) → first_marked f k i ≡ None → NoneFrom f (i + k) i
unfolding first_marked
first-none f zero i h = λ m a b c. absurd (let z : ⊥ = omega arith in z)
first-none f (suc k) i h = go (eqb (f i) 1) refl h (first-none f k (suc i))
  where
    past : (m : ℕ) → eqb (f i) 1 ≡ false → NoneFrom f (suc i + k) (suc i) → i ≤ m → m < i + suc k → f m ≡ 1 → Dec (i < m) → ⊥
    past m e r a b c (yes y) = r m (omega arith) (omega arith) c
    past m e r a b c (no y) = let s : m ≡ i = omega arith in eqb-false (f i) 1 e (ap f (sym s) ∙ c)

    go : (b : Bool) → eqb (f i) 1 ≡ b → cond b (Some i) (first_marked f k (suc i)) ≡ None → (first_marked f k (suc i) ≡ None → NoneFrom f (suc i + k) (suc i)) → NoneFrom f (i + suc k) i
    go true e q ih = absurd (at-nothing _ q)
    go false e q ih = λ m a b c. past m e (ih q) a b c (dec_lt i m)

-- ---- what follows from an answer: the number of words is right, the index is below the granules, and ..
module _ (ws : List ℕ) (n i : ℕ) where
  abbrev pub Asked : Type 0
  Asked = (length ws ≡ (n + 63) / 64) × (i < n)

  asked : Yes (both (words_fit ws n) (ltb i n)) → Asked
  unfolding words_for
  asked h = (eqb-true _ _ (both_l _ _ h), ltb-true _ _ (both_r _ _ h))

  answers : Asked → realm_next_of ws n i ≡ Result.Ok (first_marked (bit_at ws) (n - i) i)
  unfolding realm_next_of words_for
  answers a = rw (both_of _ _ (eq-eqb (length ws) ((n + 63) / 64) a.0) (lt-ltb i n a.1))

  -- an answer other than INVAL
  told : (h : Option ℕ) → realm_next_of ws n i ≡ Result.Ok h → Asked × (first_marked (bit_at ws) (n - i) i ≡ h)
  unfolding realm_next_of
  told h e = go (both (words_fit ws n) (ltb i n)) refl e
    where
      go : (b : Bool) → both (words_fit ws n) (ltb i n) ≡ b →
          cond {A = Result (Option ℕ) Inval} b (Result.Ok (first_marked (bit_at ws) (n - i) i)) (Result.Err inval) ≡ Result.Ok h →
          Asked × (first_marked (bit_at ws) (n - i) i ≡ h)
      go true y q = (asked y, same-ok _ _ q)
      go false y q = absurd (inval-not h q)

  -- .. "the first one at or after an index": the granule is marked, at or after the index, and no granule between them is marked
  pub next-first : (j : ℕ) → realm_next_of ws n i ≡ Result.Ok (Some j) → Asked × FirstAt (bit_at ws) n i j
  next-first j h =
      let t = told (Some j) h in
      let r = first-at (bit_at ws) (n - i) i j t.1 in
      let l = t.0.1 in
      (t.0, record { from = r.from; below = omega (arith, r.below); marks = r.marks; before = r.before })

  -- .. "No hit": no granule at or after the index is marked
  pub next-none : realm_next_of ws n i ≡ Result.Ok None → Asked × NoneFrom (bit_at ws) n i
  next-none h =
      let t = told None h in
      let l = t.0.1 in
      (t.0, λ m a b c. first-none (bit_at ws) (n - i) i t.1 m a (omega arith) c)

  -- INVAL is the answer only if one of the two does not hold
  pub next-inval : realm_next_of ws n i ≡ Result.Err inval → Asked → ⊥
  next-inval h a = inval-not _ (sym h ∙ answers a)

  -- ---- the converse: each answer is given if its facts hold
  pub next-is : (j : ℕ) → Asked → FirstAt (bit_at ws) n i j → realm_next_of ws n i ≡ Result.Ok (Some j)
  next-is j a f = go (realm_next_of ws n i) refl
    where
      same : (k : ℕ) → FirstAt (bit_at ws) n i k → Dec (k < j) → Dec (j < k) → k ≡ j
      same k g (yes y) b = absurd (f.before k g.from y g.marks)
      same k g (no y) (yes b) = absurd (g.before j f.from b f.marks)
      same k g (no y) (no b) = omega arith

      go : (h : Result (Option ℕ) Inval) → realm_next_of ws n i ≡ h → realm_next_of ws n i ≡ Result.Ok (Some j)
      go (Result.Ok (Some k)) e = e ∙ ap (λ m. Result.Ok (Some m)) (same k (next-first k e).1 (dec_lt k j) (dec_lt j k))
      go (Result.Ok None) e = absurd ((next-none e).1 j f.from f.below f.marks)
      go (Result.Err x) e = absurd (next-inval e a)

  pub next-nothing : Asked → NoneFrom (bit_at ws) n i → realm_next_of ws n i ≡ Result.Ok None
  next-nothing a f = go (realm_next_of ws n i) refl
    where
      go : (h : Result (Option ℕ) Inval) → realm_next_of ws n i ≡ h → realm_next_of ws n i ≡ Result.Ok None
      go (Result.Ok (Some k)) e = let g = (next-first k e).1 in absurd (f k g.from g.below g.marks)
      go (Result.Ok None) e = e
      go (Result.Err x) e = absurd (next-inval e a)

  -- "INVAL .. if their number is not the record's granules over 64, rounded up"; "then INVAL for an index not below the granules"
  pub next-refused : (Asked → ⊥) → realm_next_of ws n i ≡ Result.Err inval
  next-refused r = go (realm_next_of ws n i) refl
    where
      go : (h : Result (Option ℕ) Inval) → realm_next_of ws n i ≡ h → realm_next_of ws n i ≡ Result.Err inval
      go (Result.Ok (Some k)) e = absurd (r (next-first k e).0)
      go (Result.Ok None) e = absurd (r (next-none e).0)
      go (Result.Err x) e = e
