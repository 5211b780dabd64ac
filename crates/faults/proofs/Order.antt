-- Laws of tests in order: what the turns and returns of the code imply, and when there is no fault. Assumes nothing.
use Rattle.std.proofs.Common.{◌≡◌, ℕ, zero, suc, ◌+◌, ◌<◌, Bool, true, false, cond, sym, refl, ◌∙◌, not-suc-le-zero, add-one, arith, Ok, Err}
use Rattle.std.specs.Result.{IsErrAnd}
use Rattle.std.proofs.lemmas.Result.{err_from_is_err_and}
use mathlib.Core.Bool.{false≢true}
use native.Mathlib.Decide.{dec_lt}
use Rattle.words.specs.Tests.{both, every}
use Rattle.faults.specs.Faults.{Diagnosis, unless, first_fault, first_of}
use Rattle.faults.specs.declared.Fault.{Fault}

-- ---- a `?` returns the fault of its call
pub told_on : {r d : Diagnosis} {x : Fault} → d ≡ Err x → IsErrAnd r (λ y. y ≡ x) → r ≡ d
told_on {r} {d} {x} h k = let p = err_from_is_err_and r k in p.1 ∙ rw p.2 (sym h)

-- ---- the first of two
module _ (a b d : Diagnosis) (e : d ≡ a) where
  pub or_at : (x : Fault) → d ≡ Err x → d ≡ first_fault a b
  unfolding first_fault
  or_at x h = rw (← e, h)

  pub or-next : d ≡ Ok tt → (r : Diagnosis) → r ≡ b → r ≡ first_fault a b
  unfolding first_fault
  or-next h r q = rw (← e, h) q

-- ---- the first of many, for a loop that counts up
pub first-none : (f : ℕ → Diagnosis) → first_of 0 f ≡ Ok tt
unfolding first_of
first-none f = refl

first-at : (n : ℕ) (f : ℕ → Diagnosis) (i : ℕ) (x : Fault) → i < n → first_of i f ≡ Ok tt → f i ≡ Err x → first_of n f ≡ f i
unfolding first_of first_fault
first-at zero f i x l p q = absurd (not-suc-le-zero l)
first-at (suc n) f i x l p q = go (dec_lt i n) (λ m. first-at n f i x m p q)
  where
    go : Dec (i < n) → (i < n → first_of n f ≡ f i) → first_fault (first_of n f) (f n) ≡ f i
    go (yes m) r = rw (r m, q)
    go (no m) r = let e : n ≡ i = omega arith in rw (e, p)

-- d is the code's result for f i
module _ (f : ℕ → Diagnosis) (i : ℕ) (d : Diagnosis) (h : first_of i f ≡ Ok tt) (e : d ≡ f i) where
  pub told_more : d ≡ Ok tt → first_of (i + 1) f ≡ Ok tt
  unfolding first_of first_fault
  told_more c = rw (add-one, h, ← e, c)

  pub told_at : (n : ℕ) (x : Fault) → i < n → d ≡ Err x → d ≡ first_of n f
  told_at n x l c = e ∙ sym (first-at n f i x l h (sym e ∙ c))

pub told-all : (f : ℕ → Diagnosis) (i n : ℕ) → first_of i f ≡ Ok tt → i ≡ n → Ok tt ≡ first_of n f
told-all f i n h e = rw (← e) (sym h)

-- ---- when there is no fault
unfoldable pub is_clear : Diagnosis → Bool
is_clear (Ok u) = true
is_clear (Err f) = false

pub clear-is : (d : Diagnosis) → is_clear d ≡ true → d ≡ Ok tt
unfolding is_clear
clear-is (Ok u) h = refl
clear-is (Err f) h = absurd (false≢true h)

pub is-clear : (d : Diagnosis) → d ≡ Ok tt → is_clear d ≡ true
unfolding is_clear
is-clear d h = rw h

pub clear-unless : (b : Bool) (f : Fault) (d : Diagnosis) → is_clear (unless b f d) ≡ both b (is_clear d)
unfolding is_clear unless both
clear-unless true f d = refl
clear-unless false f d = refl

pub clear-last : (b : Bool) (f : Fault) → is_clear (unless b f (Ok tt)) ≡ b
unfolding is_clear unless
clear-last true f = refl
clear-last false f = refl

pub clear_or : (a b : Diagnosis) → is_clear (first_fault a b) ≡ both (is_clear a) (is_clear b)
unfolding is_clear first_fault both
clear_or (Ok u) b = refl
clear_or (Err f) b = refl

pub clear-cond : (b : Bool) (x y : Diagnosis) → is_clear (cond b x y) ≡ cond b (is_clear x) (is_clear y)
clear-cond true x y = refl
clear-cond false x y = refl

pub clear_first : (n : ℕ) (f : ℕ → Diagnosis) → is_clear (first_of n f) ≡ every n (λ i. is_clear (f i))
unfolding is_clear first_of every
clear_first zero f = refl
clear_first (suc n) f = rw (clear_or, clear_first n f)
