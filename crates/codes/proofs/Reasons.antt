-- A row of checks follows a table of conditions. Assumes nothing.
use Prim.Native.Nat.{ℕ, ◌≤◌, ◌<◌}
use mathlib.Core.Path.{◌≡◌, refl, sym, ◌∙◌}
use mathlib.Core.Bool.{Bool, true, false, true≢false, false≢true}
use mathlib.Core.Logic.{◌⊎◌, inl, inr}
use native.Mathlib.Omega.{arith}
use lib.Dec.{leb, ltb, eqb}
use borrow.Author.Tests.{lt-ltb, le-ltb, le-leb, lt-leb, eq-eqb, ne_eqb}
use Rattle.words.specs.Tests.{both, either}
use Rattle.boot.specs.declared.Params.{Params}
use Rattle.boot.specs.declared.Record.{Record}
use Rattle.boot.specs.declared.Record.TheVariants.{Fresh, Up, Closed}
use Rattle.codes.specs.Codes.{extended, x0_of, answer_of, is_false, fails, is_up, boot_params, is_ok, and_then}
use Rattle.codes.specs.Reasons.{Gives, WhileUp}
use Rattle.codes.specs.declared.Code.{Code}
use Rattle.codes.specs.declared.Code.TheVariants.{Ok, Unk, BadAddr, BadPas, Inval, Again}

-- ---- a test decides a fact
pub record Tells (b : Bool) (P : Type 0) : Type 0 where
  pub yes-if : P → b ≡ true
  pub no-if : (P → ⊥) → b ≡ false

pub tells-lt : (a b : ℕ) → Tells (ltb a b) (a < b)
tells-lt a b = record { yes-if = λ h. lt-ltb a b h; no-if = λ h. le-ltb a b (omega arith) }

pub tells-le : (a b : ℕ) → Tells (leb a b) (a ≤ b)
tells-le a b = record { yes-if = λ h. le-leb a b h; no-if = λ h. lt-leb a b (omega arith) }

pub tells-eq : (a b : ℕ) → Tells (eqb a b) (a ≡ b)
tells-eq a b = record { yes-if = λ h. eq-eqb a b h; no-if = λ h. ne_eqb a b h }

pub tells-yes : (b : Bool) → Tells b (b ≡ true)
tells-yes true = record { yes-if = λ h. h; no-if = λ h. absurd (h refl) }
tells-yes false = record { yes-if = λ h. h; no-if = λ h. refl }

pub tells-not : (b : Bool) (P : Type 0) → Tells b P → Tells (is_false b) (P → ⊥)
unfolding is_false
tells-not true P t = record { yes-if = λ h. absurd (true≢false (t.no-if h)); no-if = λ h. refl }
tells-not false P t = record { yes-if = λ h. refl; no-if = λ h. absurd (h (λ p. false≢true (t.yes-if p))) }

pub tells-either : (a b : Bool) (P Q : Type 0) → Tells a P → Tells b Q → Tells (either a b) (P ⊎ Q)
unfolding either
tells-either true b P Q s t = record { yes-if = λ h. refl; no-if = λ h. absurd (true≢false (s.no-if (λ p. h (inl p)))) }
tells-either false b P Q s t = record { yes-if = go; no-if = λ h. t.no-if (λ q. h (inr q)) }
  where
    go : P ⊎ Q → b ≡ true
    go (inl p) = absurd (false≢true (s.yes-if p))
    go (inr q) = t.yes-if q

pub tells_both : (a b : Bool) (P Q : Type 0) → Tells a P → Tells b Q → Tells (both a b) (P × Q)
unfolding both
tells_both true b P Q s t = record { yes-if = λ h. t.yes-if h.1; no-if = λ h. go b refl h }
  where
    go : (c : Bool) → b ≡ c → (P × Q → ⊥) → b ≡ false
    go false e h = e
    go true e h = absurd (true≢false (s.no-if (λ p. true≢false (sym e ∙ t.no-if (λ q. h (p, q))))))
tells_both false b P Q s t = record { yes-if = λ h. absurd (false≢true (s.yes-if h.0)); no-if = λ h. refl }

pub unless_not : (b : Bool) → is_false b ≡ false → b ≡ true
unfolding is_false
unless_not true h = refl
unless_not false h = absurd (true≢false h)

-- ---- a check is one line of the table
pub gives : (b : Bool) (P : Type 0) (c next : Code) (below : Code → Type 0) → Tells b P → (b ≡ false → below next) →
    Gives P c below (fails b c next)
unfolding fails
gives true P c next below t x = record { where-it-holds = λ p. refl; elsewhere = λ n. absurd (true≢false (t.no-if n)) }
gives false P c next below t x = record { where-it-holds = λ p. absurd (false≢true (t.yes-if p)); elsewhere = λ n. x refl }

pub while-up : (r : Record) (next : Params → Code) (below : Params → Code → Type 0) → ((u : Params) → r ≡ Up u → below u (next u)) →
    WhileUp r below (fails (is_false (is_up r)) Unk (next (boot_params r)))
unfolding is_up boot_params is_false fails WhileUp
while-up Fresh next below h = refl
while-up (Up u) next below h = h u refl
while-up Closed next below h = refl

-- ---- two rows of checks are one row
pub then-fails : (b : Bool) (c k next : Code) → is_ok c ≡ false → and_then (fails b c k) next ≡ fails b c (and_then k next)
unfolding and_then fails
then-fails true c k next h = rw h
then-fails false c k next h = refl

pub then-then : (k j next : Code) → and_then (and_then k j) next ≡ and_then k (and_then j next)
unfolding and_then
then-then Ok j next = refl
then-then Unk j next = refl
then-then BadAddr j next = refl
then-then BadPas j next = refl
then-then Inval j next = refl
then-then Again j next = refl

pub then-none : (next : Code) → and_then Ok next ≡ next
unfolding and_then
then-none next = refl

-- ---- what x0 holds. "OK 0, UNK -1, BAD_ADDR -2, BAD_PAS -3, INVAL -5, AGAIN -6"; "x0 holds the code sign-extended to 64 bits"
pub record X0s (x1 x2 : ℕ) : Type 0 where
  pub ok : answer_of Ok x1 x2 ≡ record { code = Ok; x0 = 0; x1 = x1; x2 = x2 }
  pub unk : answer_of Unk x1 x2 ≡ record { code = Unk; x0 = 0xFFFF_FFFF_FFFF_FFFF; x1 = x1; x2 = x2 }
  pub bad_addr : answer_of BadAddr x1 x2 ≡ record { code = BadAddr; x0 = 0xFFFF_FFFF_FFFF_FFFE; x1 = x1; x2 = x2 }
  pub bad_pas : answer_of BadPas x1 x2 ≡ record { code = BadPas; x0 = 0xFFFF_FFFF_FFFF_FFFD; x1 = x1; x2 = x2 }
  pub inval : answer_of Inval x1 x2 ≡ record { code = Inval; x0 = 0xFFFF_FFFF_FFFF_FFFB; x1 = x1; x2 = x2 }
  pub again : answer_of Again x1 x2 ≡ record { code = Again; x0 = 0xFFFF_FFFF_FFFF_FFFA; x1 = x1; x2 = x2 }

pub x0-numbers : (x1 x2 : ℕ) → X0s x1 x2
unfolding answer_of x0_of extended
x0-numbers x1 x2 = record { ok = refl; unk = refl; bad_addr = refl; bad_pas = refl; inval = refl; again = refl }
