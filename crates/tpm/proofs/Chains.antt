-- What the result of a chain of checks implies. Assumes nothing.
use mathlib.Core.Path.{◌≡◌, refl, sym, ap, ◌∙◌}
use mathlib.Core.Bool.{Bool, true, false, cond, false≢true}
use Rattle.tpm.specs.declared.ReturnCode.{ReturnCode}
use Rattle.tpm.specs.declared.ReturnCode.TheVariants.{Success, Function, Parameter, P2, P3, P4, P5, Resource}
use Rattle.tpm.specs.ReturnCodes.{is_success, returns_if}

-- the result of some checks, and if it is success, the result of the checks after them
unfoldable pub on_success : ReturnCode → ReturnCode → ReturnCode
on_success k rest = cond (is_success k) rest k

pub success-is : (k : ReturnCode) → is_success k ≡ true → k ≡ Success
unfolding is_success
success-is Success h = refl
success-is Function h = absurd (false≢true h)
success-is Parameter h = absurd (false≢true h)
success-is Resource h = absurd (false≢true h)
success-is P2 h = absurd (false≢true h)
success-is P3 h = absurd (false≢true h)
success-is P4 h = absurd (false≢true h)
success-is P5 h = absurd (false≢true h)

-- a code that is no success is not Success
pub not-success : (k : ReturnCode) → is_success k ≡ false → k ≡ Success → ⊥
unfolding is_success
not-success k n h = false≢true (sym n ∙ ap is_success h)

-- what a success implies about the check before it
pub returns-ok : (b : Bool) (k rest : ReturnCode) → is_success k ≡ false → returns_if b k rest ≡ Success → (b ≡ false) × (rest ≡ Success)
unfolding returns_if
returns-ok true k rest n h = absurd (not-success k n h)
returns-ok false k rest n h = (refl, h)

-- ---- checks followed by others: the others matter only if these pass
abbrev pub Continues : (ReturnCode → ReturnCode) → Type 0
Continues f = (rest : ReturnCode) → f rest ≡ on_success (f Success) rest

pub returns-on : (b : Bool) (k : ReturnCode) → is_success k ≡ false → Continues (returns_if b k)
unfolding returns_if on_success is_success
returns-on true k n rest = rw n
returns-on false k n rest = refl

then-then : (j k rest : ReturnCode) → on_success (on_success j k) rest ≡ on_success j (on_success k rest)
unfolding on_success
then-then j k rest = go (is_success j) refl
  where
    go : (b : Bool) → is_success j ≡ b → cond (is_success (cond (is_success j) k j)) rest (cond (is_success j) k j) ≡ cond (is_success j)
        (cond (is_success k) rest k) j
    go true e = simp e
    go false e = simp e

pub both-on : (f g : ReturnCode → ReturnCode) → Continues f → Continues g → Continues (λ (rest : ReturnCode). f (g rest))
both-on f g p q rest =
    p (g rest)
    ∙ ap (on_success (f Success)) (q rest)
    ∙ sym (then-then (f Success) (g Success) rest)
    ∙ ap (λ (k : ReturnCode). on_success k rest) (sym (p (g Success)))

pub on-stops : (f : ReturnCode → ReturnCode) → Continues f → is_success (f Success) ≡ false → (rest : ReturnCode) → f rest ≡ f Success
unfolding on_success
on-stops f p n rest = p rest ∙ rw n

pub on-goes : (f : ReturnCode → ReturnCode) → Continues f → is_success (f Success) ≡ true → (rest : ReturnCode) → f rest ≡ rest
unfolding on_success
on-goes f p n rest = p rest ∙ rw n

-- as in the code: the checks give the code j, which is k
pub passed : {k : ReturnCode} → Success ≡ k → is_success k ≡ true
unfolding is_success
passed e = ap is_success (sym e)

pub stopped : {j k : ReturnCode} → j ≡ k → is_success j ≡ false → is_success k ≡ false
stopped e h = ap is_success (sym e) ∙ h
