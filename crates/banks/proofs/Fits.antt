-- Request E2: the set-up is OK exactly if the banks shown fit, and a record has granules exactly if its own do. In plain facts. Assumes
-- nothing.
use Rattle.std.proofs.Common.{◌≡◌, ℕ, zero, suc, ◌+◌, ◌*◌, ◌/◌, ◌%◌, ◌^◌, ◌<◌, ◌≤◌, Bool, true, false, cond, List, length, get_or, sym, refl, ◌∙◌, not-suc-le-zero, arith, ltb-true, lt-ltb, eq-eqb, eqb-true, le-leb, leb-true}
use native.Mathlib.Decide.{ℕ_discrete}
use Rattle.words.specs.Tests.{Yes}
use Rattle.words.specs.Word.{word_at}
use Rattle.words.proofs.Tests.{both_l, both_r, both_of}
use Rattle.entries.specs.Entry.{bank_ok}
use Rattle.codes.specs.Codes.{is_false, fails}
use Rattle.codes.specs.declared.Code.TheVariants.{Ok, Inval}
use Rattle.codes.proofs.Gates.{unless-ok}
use Rattle.banks.specs.Banks.{Granules, Bank, banks_by, bank_at, bank_count, banks_of, follows, ascend, banks_ok, record_ok, total}
use Rattle.banks.specs.Banks.{granule_count, bank_in, shown_count, takes, set_up_code, set_up_of, record_from}
use Rattle.banks.specs.Fit.{granules_to, BanksFit}
use Rattle.banks.proofs.Passing.{Follows, follows_is}
use Rattle.banks.proofs.Making.{word-in, count-made}

-- ---- the banks f i, .., f (i + k - 1)
module _ (f : ℕ → Bank) where
  abbrev base : ℕ → ℕ
  base i = (f i).base

  abbrev size : ℕ → ℕ
  size i = (f i).size

  -- each meets the reader's rule
  ascend-rule : (low i k : ℕ) → Yes (ascend low (banks_by f i k)) → (j : ℕ) → i ≤ j → j < i + k → Follows 0 (base j) (size j)
  unfolding ascend banks_by
  ascend-rule low i zero h j a b = absurd (let z : ⊥ = omega arith in z)
  ascend-rule low i (suc k) h j a b = go (ℕ_discrete j i) (ascend-rule (base i + size i) (suc i) k (both_r _ _ h) j)
    where
      go : Dec (j ≡ i) → (suc i ≤ j → j < suc i + k → Follows 0 (base j) (size j)) → Follows 0 (base j) (size j)
      go (yes e) ih =
          let v = follows_is low (base i) (size i) (both_l _ _ h) in
          rw e (record { after = omega arith; base-whole = v.base-whole; size-whole = v.size-whole; some = v.some; ends = v.ends })
      go (no e) ih = ih (omega arith) (omega arith)

  ascend-head : (low i k : ℕ) → Yes (ascend low (banks_by f i k)) → 0 < k → low ≤ base i
  unfolding ascend banks_by
  ascend-head low i zero h l = absurd (not-suc-le-zero l)
  ascend-head low i (suc k) h l = (follows_is low (base i) (size i) (both_l _ _ h)).after

  -- and starts at or after the end of the one before
  ascend-next : (low i k : ℕ) → Yes (ascend low (banks_by f i k)) → (j : ℕ) → i ≤ j → suc j < i + k → base j + size j ≤ base (suc j)
  unfolding ascend banks_by
  ascend-next low i zero h j a b = absurd (let z : ⊥ = omega arith in z)
  ascend-next low i (suc k) h j a b = go (ℕ_discrete j i) (ascend-next (base i + size i) (suc i) k (both_r _ _ h) j)
    where
      go : Dec (j ≡ i) → (suc i ≤ j → suc j < suc i + k → base j + size j ≤ base (suc j)) → base j + size j ≤ base (suc j)
      go (yes e) ih = rw e (ascend-head (base i + size i) (suc i) k (both_r _ _ h) (omega arith))
      go (no e) ih = ih (omega arith) (omega arith)

  -- the converse
  follow : (low b s : ℕ) → low ≤ b → b % 4096 ≡ 0 → s % 4096 ≡ 0 → 0 < s → b + s ≤ 2 ^ 52 → Yes (follows low b s)
  unfolding follows bank_ok
  follow low b s l p q z e =
      both_of _ _ (le-leb low b l) (both_of _ _ (eq-eqb (b % 4096) 0 p)
      (both_of _ _ (eq-eqb (s % 4096) 0 q) (both_of _ _ (lt-ltb 0 s z) (le-leb (b + s) (2 ^ 52) e))))

  ascend-of : (low i k c n : ℕ) → BanksFit base size c n → (0 < k → low ≤ base i) → i + k ≡ c → Yes (ascend low (banks_by f i k))
  unfolding ascend banks_by
  ascend-of low i zero c n v l e = refl
  ascend-of low i (suc k) c n v l e =
      let m : i < c = omega arith in
      both_of _ _
      (follow low (base i) (size i) (l (omega arith)) (v.base-whole i m) (v.size-whole i m) (v.size-some i m) (v.ends i m))
      (ascend-of (base i + size i) (suc i) k c n v (λ z. v.ascends i (omega arith)) (omega arith))

  -- the sum, from the front and from the end
  total-end : (i k : ℕ) → total (banks_by f i (suc k)) ≡ total (banks_by f i k) + size (i + k) / 4096
  unfolding total banks_by
  total-end i zero = let e : i + 0 ≡ i = omega arith in rw e (omega arith)
  total-end i (suc k) = let e : i + suc k ≡ suc i + k = omega arith in rw e (omega (arith, total-end (suc i) k))

  pub total-to : (k : ℕ) → total (banks_by f 0 k) ≡ granules_to size k
  unfolding total banks_by
  total-to zero = refl
  total-to (suc k) = let e : 0 + k ≡ k = omega arith in total-end 0 k ∙ rw (e, total-to k)

  -- both directions
  pub fit-taken : (c n : ℕ) → BanksFit base size c n → Yes (banks_ok c (banks_by f 0 c)) × (total (banks_by f 0 c) ≡ n)
  unfolding banks_ok
  fit-taken c n v = (
    both_of _ _ (lt-ltb 0 c v.some) (both_of _ _ (le-leb c 16 v.few) (ascend-of 0 0 c c n v (λ z. omega arith) (omega arith))),
    total-to c ∙ v.sum,
  )

  pub taken-fit : (c n : ℕ) → Yes (banks_ok c (banks_by f 0 c)) → total (banks_by f 0 c) ≡ n → BanksFit base size c n
  unfolding banks_ok
  taken-fit c n h e =
      let a = both_r _ _ (both_r _ _ h) in
      record {
        some = ltb-true _ _ (both_l _ _ h);
        few = leb-true _ _ (both_l _ _ (both_r _ _ h));
        base-whole = λ i l. (ascend-rule 0 0 c a i (omega arith) (omega arith)).base-whole;
        size-whole = λ i l. (ascend-rule 0 0 c a i (omega arith) (omega arith)).size-whole;
        size-some = λ i l. (ascend-rule 0 0 c a i (omega arith) (omega arith)).some;
        ends = λ i l. (ascend-rule 0 0 c a i (omega arith) (omega arith)).ends;
        ascends = λ i l. ascend-next 0 0 c a i (omega arith) (omega arith);
        sum = sym (total-to c) ∙ e;
      }

-- ---- the set-up
-- the banks shown: 16 bytes a bank, base and size
abbrev pub Shown : List ℕ → ℕ → Type 0
Shown shown n = (length shown % 16 ≡ 0) × BanksFit (λ i. word_at (16 * i) shown) (λ i. word_at (16 * i + 8) shown) (length shown / 16) n

-- a record of these banks: the count, then base and size of each
pub record Holds (g : Granules) (shown : List ℕ) : Type 0 where
  pub count : get_or g 0 0 ≡ length shown / 16
  pub bases : (i : ℕ) → i < length shown / 16 → get_or g (1 + 2 * i) 0 ≡ word_at (16 * i) shown
  pub sizes : (i : ℕ) → i < length shown / 16 → get_or g (2 + 2 * i) 0 ≡ word_at (16 * i + 8) shown

module _ (shown : List ℕ) (n : ℕ) (g : Granules) where
  made_holds : Holds (record_from (shown_count shown) shown) shown
  made_holds =
      record {
        count = count-made (shown_count shown) shown;
        bases =
            λ i l. let e : 8 * (2 * i) ≡ 16 * i = omega arith in let s : 1 + 2 * i ≡ suc (2 * i) = omega arith in rw s
            (word-in (shown_count shown) (2 * i) shown (omega arith) ∙ rw e);
        sizes =
            λ i l. let e : 8 * (2 * i + 1) ≡ 16 * i + 8 = omega arith in let s : 2 + 2 * i ≡ suc (2 * i + 1) = omega arith in rw s
            (word-in (shown_count shown) (2 * i + 1) shown (omega arith) ∙ rw e);
      }

  -- banks that fit: OK, and a record of these banks
  pub set-up-passes : Shown shown n → ((set_up_of shown n g).code ≡ Ok) × Holds (set_up_of shown n g).granules shown
  unfolding set_up_of set_up_code takes fails is_false
  set-up-passes s =
      let t = fit-taken (bank_in shown) (shown_count shown) n s.1 in
      let y = both_of _ _ (eq-eqb (length shown % 16) 0 s.0)
      (both_of _ _ t.0 (eq-eqb (total (banks_by (bank_in shown) 0 (shown_count shown))) n t.1)) in
      rw y (refl, made_holds)

  -- and only such banks
  pub set-up-only : (set_up_of shown n g).code ≡ Ok → Shown shown n
  unfolding set_up_of set_up_code takes
  set-up-only h =
      let y = (unless-ok (takes shown n) Inval Ok refl h).0 in (
        eqb-true _ _ (both_l _ _ y),
        taken-fit (bank_in shown) (shown_count shown) n (both_l _ _ (both_r _ _ y))
            (eqb-true _ _ (both_r _ _ (both_r _ _ y))),
      )

  -- any others: "INVAL, with no record made"
  pub set-up-refused : (Shown shown n → ⊥) → set_up_of shown n g ≡ record { code = Inval; granules = g }
  unfolding set_up_of set_up_code fails is_false
  set-up-refused r = go (takes shown n) refl
    where
      go : (b : Bool) → takes shown n ≡ b → set_up_of shown n g ≡ record { code = Inval; granules = g }
      go true e = absurd (r (set-up-only (rw e)))
      go false e = rw e

-- ---- "later, a record whose banks the set-up would refuse has no granules", and one that it would accept has their sum
module _ (g : Granules) where
  abbrev pub Fit : ℕ → Type 0
  Fit n = BanksFit (λ i. get_or g (1 + 2 * i) 0) (λ i. get_or g (2 + 2 * i) 0) (get_or g 0 0) n

  pub granules-sum : (n : ℕ) → Fit n → granule_count g ≡ n
  unfolding granule_count record_ok
  granules-sum n v = let t = fit-taken (bank_at g) (bank_count g) n v in rw t.0 t.1

  pub granules-none : ((n : ℕ) → Fit n → ⊥) → granule_count g ≡ 0
  unfolding granule_count record_ok
  granules-none r = go (record_ok g) refl
    where
      go : (b : Bool) → record_ok g ≡ b → cond b (total (banks_of g)) 0 ≡ 0
      go true e = absurd (r (total (banks_of g)) (taken-fit (bank_at g) (bank_count g) (total (banks_of g)) e refl))
      go false e = refl
