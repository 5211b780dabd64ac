-- What follows from the code of a row of checks, and from its gate. Assumes nothing.
use Prim.Native.Nat.{ℕ}
use mathlib.Core.Path.{◌≡◌, refl, sym, ap, ◌∙◌}
use mathlib.Core.Bool.{Bool, true, false, false≢true, true≢false}
use native.Mathlib.Omega.{arith}
use Rattle.words.specs.Tests.{either}
use Rattle.boot.specs.declared.Params.{Params}
use Rattle.boot.specs.declared.Record.{Record}
use Rattle.boot.specs.declared.Record.TheVariants.{Fresh, Up, Closed}
use Rattle.codes.specs.Codes.{is_false, fails, is_ok, is_up, boot_params, when_up, if_ok, and_then, gated}
use Rattle.codes.specs.declared.Code.{Code}
use Rattle.codes.specs.declared.Code.TheVariants.{Ok, Unk, BadAddr, BadPas, Inval, Again}
use Rattle.std.specs.Prelude.{Err, Ok as Go}

-- if the row is OK, its first test does not hold and the next checks are OK
pub fails-ok : (b : Bool) (c next : Code) → is_ok c ≡ false → fails b c next ≡ Ok → (b ≡ false) × (next ≡ Ok)
unfolding fails
fails-ok true c next n h = absurd (false≢true (sym n ∙ ap is_ok h))
fails-ok false c next n h = (refl, h)

-- if the row is OK, the negated test holds and the next checks are OK
pub unless-ok : (b : Bool) (c next : Code) → is_ok c ≡ false → fails (is_false b) c next ≡ Ok → (b ≡ true) × (next ≡ Ok)
unfolding is_false
unless-ok true c next n h = (refl, (fails-ok false c next n h).1)
unless-ok false c next n h = absurd (false≢true (sym (fails-ok true c next n h).0))

-- if the row is OK, neither of the two tests holds and the next checks are OK
pub either-ok : (a b : Bool) (c next : Code) → is_ok c ≡ false → fails (either a b) c next ≡ Ok → (a ≡ false) × (b ≡ false) × (next ≡ Ok)
unfolding either
either-ok true b c next n h = absurd (false≢true (sym (fails-ok true c next n h).0))
either-ok false b c next n h = let p = fails-ok b c next n h in (refl, p.0, p.1)

-- if two rows together are OK, the first is OK
pub first-ok : (k next : Code) → and_then k next ≡ Ok → k ≡ Ok
unfolding and_then
first-ok Ok next h = refl
first-ok Unk next h = h
first-ok BadAddr next h = h
first-ok BadPas next h = h
first-ok Inval next h = h
first-ok Again next h = h

-- if two rows together are OK, the second is OK
pub then_ok : (k next : Code) → and_then k next ≡ Ok → next ≡ Ok
unfolding and_then
then_ok Ok next h = h
then_ok Unk next h = absurd (false≢true (ap is_ok h))
then_ok BadAddr next h = absurd (false≢true (ap is_ok h))
then_ok BadPas next h = absurd (false≢true (ap is_ok h))
then_ok Inval next h = absurd (false≢true (ap is_ok h))
then_ok Again next h = absurd (false≢true (ap is_ok h))

-- two rows: the first fails, or the first passes
pub then-stop : (k next j : Code) → k ≡ j → is_ok j ≡ false → and_then k next ≡ j
unfolding and_then
then-stop k next j e h = rw (e, h)

pub then-go : (k next : Code) → k ≡ Ok → and_then k next ≡ next
unfolding and_then
then-go k next e = rw e

-- ---- what follows from the result of checks
module _ {A : Type 0} where
  pub went : (k : Code) (x y : A) → gated k x ≡ Go y → (k ≡ Ok) × (y ≡ x)
  unfolding gated
  went Ok x y h = (refl, cc)
  went Unk x y h = let z : ◌≡◌ {A = ℕ} 0 1 = cc in absurd (omega arith)
  went BadAddr x y h = let z : ◌≡◌ {A = ℕ} 0 1 = cc in absurd (omega arith)
  went BadPas x y h = let z : ◌≡◌ {A = ℕ} 0 1 = cc in absurd (omega arith)
  went Inval x y h = let z : ◌≡◌ {A = ℕ} 0 1 = cc in absurd (omega arith)
  went Again x y h = let z : ◌≡◌ {A = ℕ} 0 1 = cc in absurd (omega arith)

  pub stood : (k : Code) (x : A) (j : Code) → gated k x ≡ Err j → (k ≡ j) × (is_ok j ≡ false)
  unfolding gated
  stood Ok x j h = let z : ◌≡◌ {A = ℕ} 0 1 = cc in absurd (omega arith)
  stood Unk x j h = let e : Unk ≡ j = cc in (e, rw (← e))
  stood BadAddr x j h = let e : BadAddr ≡ j = cc in (e, rw (← e))
  stood BadPas x j h = let e : BadPas ≡ j = cc in (e, rw (← e))
  stood Inval x j h = let e : Inval ≡ j = cc in (e, rw (← e))
  stood Again x j h = let e : Again ≡ j = cc in (e, rw (← e))

  pub stops : (k : Code) (x : A) (j : Code) → k ≡ j → is_ok j ≡ false → Err j ≡ gated k x
  unfolding gated
  stops k x j e h = rw (e, h)

  pub goes : (k : Code) (x y : A) → k ≡ Ok → y ≡ x → Go y ≡ gated k x
  unfolding gated
  goes k x y e p = rw (e, p)

-- a code is OK if it equals OK, and only then
pub ok-is : (k : Code) → k ≡ Ok → is_ok k ≡ true
ok-is k e = rw e

pub not_ok : (k : Code) → (k ≡ Ok → ⊥) → is_ok k ≡ false
not_ok Ok h = absurd (h refl)
not_ok Unk h = refl
not_ok BadAddr h = refl
not_ok BadPas h = refl
not_ok Inval h = refl
not_ok Again h = refl

-- ---- the record that a command needs to be up (RT6)
pub up-went : (r : Record) (u : Params) → gated (when_up r Ok) (boot_params r) ≡ Go u → (is_up r ≡ true) × (u ≡ boot_params r)
unfolding when_up fails is_false is_up
up-went Fresh u h = absurd (false≢true (ap is_ok (went _ _ u h).0))
up-went (Up v) u h = (refl, (went _ _ u h).1)
up-went Closed u h = absurd (false≢true (ap is_ok (went _ _ u h).0))

pub up_stood : (r : Record) (j : Code) → gated (when_up r Ok) (boot_params r) ≡ Err j → (is_up r ≡ false) × (j ≡ Unk)
unfolding when_up fails is_false is_up
up_stood Fresh j h = (refl, sym (stood _ _ j h).0)
up_stood (Up v) j h = absurd (true≢false (ap is_ok (stood _ _ j h).0 ∙ (stood _ _ j h).1))
up_stood Closed j h = (refl, sym (stood _ _ j h).0)

pub up-goes : (r : Record) (u : Params) → is_up r ≡ true → u ≡ boot_params r → Go u ≡ gated (when_up r Ok) (boot_params r)
unfolding when_up is_false fails gated
up-goes r u h e = rw (h, e)

pub up-stops : (r : Record) → is_up r ≡ false → Err Unk ≡ gated (when_up r Ok) (boot_params r)
unfolding when_up is_false fails gated
up-stops r h = rw h

-- ---- what a call leaves
-- a property of the result follows if it holds of the new value after OK and of the old value after a refusal
pub if-ok-by : {A : Type 0} (P : A → Type 0) (k : Code) (new old : A) → (k ≡ Ok → P new) → (is_ok k ≡ false → P old) → P (if_ok k new old)
if-ok-by P Ok new old f g = f refl
if-ok-by P Unk new old f g = g refl
if-ok-by P BadAddr new old f g = g refl
if-ok-by P BadPas new old f g = g refl
if-ok-by P Inval new old f g = g refl
if-ok-by P Again new old f g = g refl
