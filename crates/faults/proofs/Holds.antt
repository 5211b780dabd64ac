-- A property of the fault that a diagnosis reports, if it reports one. Assumes nothing.
use Rattle.std.proofs.Common.{◌≡◌, ℕ, zero, suc, ◌<◌, Bool, true, false, cond, refl, arith, Ok, Err}
use Rattle.faults.specs.Faults.{Diagnosis, unless, first_fault, first_of}
use Rattle.faults.specs.declared.Fault.{Fault}

abbrev pub Holds : (Fault → Type 0) → Diagnosis → Type 0
Holds P (Ok u) = Unit {0}
Holds P (Err f) = P f

pub hold_at : (P : Fault → Type 0) (d : Diagnosis) (f : Fault) → Holds P d → d ≡ Err f → P f
hold_at P d f h e = rw e at h

pub hold-unless : (P : Fault → Type 0) (b : Bool) (f : Fault) (d : Diagnosis) → (b ≡ false → P f) → (b ≡ true → Holds P d) →
    Holds P (unless b f d)
unfolding unless
hold-unless P true f d p q = q refl
hold-unless P false f d p q = p refl

pub hold-cond : (P : Fault → Type 0) (b : Bool) (x y : Diagnosis) → (b ≡ true → Holds P x) → (b ≡ false → Holds P y) → Holds P (cond b x y)
hold-cond P true x y p q = p refl
hold-cond P false x y p q = q refl

pub hold-or : (P : Fault → Type 0) (a b : Diagnosis) → Holds P a → (a ≡ Ok tt → Holds P b) → Holds P (first_fault a b)
unfolding first_fault
hold-or P (Ok u) b p q = q refl
hold-or P (Err f) b p q = p

pub hold-first : (P : Fault → Type 0) (n : ℕ) (f : ℕ → Diagnosis) → ((i : ℕ) → i < n → first_of i f ≡ Ok tt → Holds P (f i)) →
    Holds P (first_of n f)
unfolding first_of
hold-first P zero f h = tt
hold-first P (suc n) f h = hold-or P (first_of n f) (f n) (hold-first P n f (λ i l. h i (omega arith))) (h n (omega arith))

pub hold-map : (P Q : Fault → Type 0) (d : Diagnosis) → ((f : Fault) → d ≡ Err f → P f → Q f) → Holds P d → Holds Q d
hold-map P Q (Ok u) g h = tt
hold-map P Q (Err f) g h = g f refl h
