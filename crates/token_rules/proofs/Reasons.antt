-- When the token call gives each of its codes. "platform busy AGAIN; outside BAD_ADDR; too long INVAL; c_size not 0, 32, 48 or 64 INVAL;
-- c_size above the buffer's size INVAL; c_size 0 with no session INVAL; token empty, or with c_size 0 of another length than at the
-- session's start, UNK." Assumes nothing.
use Prim.Native.Nat.{ℕ, ◌<◌}
use mathlib.Core.Path.{◌≡◌, refl}
use mathlib.Core.Bool.{Bool, true, false}
use mathlib.Core.List.{List}
use mathlib.Core.Logic.{◌⊎◌, inl}
use native.Mathlib.Omega.{arith}
use native.Mathlib.Decide.{ℕ_discrete}
use lib.ListN.{length}
use lib.Dec.{eqb}
use borrow.Author.Tests.{eq-eqb, ne_eqb}
use Rattle.words.specs.Tests.{both, either}
use Rattle.boot.specs.declared.Params.{Params}
use Rattle.boot.specs.declared.Record.{Record}
use Rattle.codes.specs.Codes.{is_false, fails, and_then, answer_of}
use Rattle.codes.specs.Reasons.{Gives, Passes}
use Rattle.codes.specs.declared.Code.{Code}
use Rattle.codes.specs.declared.Code.TheVariants.{Ok, Unk, BadAddr, Inval, Again}
use Rattle.codes.proofs.Gates.{if-ok-by}
use Rattle.codes.proofs.Reasons.{Tells, tells-lt, tells-eq, tells-yes, tells-not, tells-either, tells_both, gives, then-fails, then-then}
use Rattle.codes.proofs.Reasons.{then-none}
use Rattle.buffer_check.specs.Range.{outside_code, page_code}
use Rattle.buffer_check.specs.Reasons.{PageGives}
use Rattle.buffer_check.specs.declared.OutsideAs.TheVariants.{BadAddress}
use Rattle.buffer_check.proofs.Reasons.{page-gives}
use Rattle.token_rules.specs.declared.Session.{Session}
use Rattle.token_rules.specs.declared.Session.TheVariants.{Idle, Sending}
use Rattle.token_rules.specs.Acts.{ChallengeSize}
use Rattle.token_rules.specs.Token.{is_idle, whole_of, listed, csize_code, buffer_code, start_code, token_code, TokenStep, send_of, keeps}
use Rattle.token_rules.specs.Token.{settled, token_of}

tells-idle : (s : Session) → Tells (is_idle s) (s ≡ Idle)
unfolding is_idle
tells-idle Idle = record { yes-if = λ h. refl; no-if = λ h. absurd (h refl) }
tells-idle (Sending whole sent) = record { yes-if = λ h. absurd (let z : ◌≡◌ {A = ℕ} 0 1 = cc in omega arith); no-if = λ h. refl }

tells-listed : (c : ℕ) → Tells (listed c) ((c ≡ 0) ⊎ ChallengeSize c)
unfolding listed
tells-listed c =
    tells-either _ _ _ _ (tells-eq c 0) (tells-either _ _ _ _ (tells-eq c 32) (tells-either _ _ _ _ (tells-eq c 48) (tells-eq c 64)))

-- "token empty, or with c_size 0 of another length than at the session's start"
tells-start : (s : Session) (c len : ℕ) →
    Tells (either (eqb len 0) (both (eqb c 0) (is_false (eqb len (whole_of s)))))
    ((len ≡ 0) ⊎ ((c ≡ 0) × ((sent : ℕ) → s ≡ Sending len sent → ⊥)))
unfolding whole_of either both is_false
tells-start (Sending whole sent) c len = tells-either _ _ _ _ (tells-eq len 0) (tells_both _ _ _ _ (tells-eq c 0) other)
  where
    t : Tells (is_false (eqb len whole)) (len ≡ whole → ⊥)
    t = tells-not _ _ (tells-eq len whole)

    other : Tells (is_false (eqb len whole)) ((k : ℕ) → Sending whole sent ≡ Sending len k → ⊥)
    other =
        record { yes-if = λ h. t.yes-if (λ e. h sent (rw e)); no-if = λ h. t.no-if (λ n. h (λ k e. n (let y : len ≡ whole = cc in y))) }
tells-start Idle c len = go (ℕ_discrete len 0)
  where
    none : (k : ℕ) → Idle ≡ Sending len k → ⊥
    none k e = let z : ◌≡◌ {A = ℕ} 0 1 = cc in omega arith

    go : Dec (len ≡ 0) → Tells (either (eqb len 0) (both (eqb c 0) (is_false (eqb len 0))))
        ((len ≡ 0) ⊎ ((c ≡ 0) × ((k : ℕ) → Idle ≡ Sending len k → ⊥)))
    go (yes z) = rw (eq-eqb len 0 z) (record { yes-if = λ h. refl; no-if = λ h. absurd (h (inl z)) })
    go (no z) =
        rw (ne_eqb len 0 z)
        (tells-either false (both (eqb c 0) true) _ _ (record { yes-if = λ e. absurd (z e); no-if = λ h. refl })
        (tells_both (eqb c 0) true _ _ (tells-eq c 0) (record { yes-if = λ h. refl; no-if = λ h. absurd (h none) })))

-- the code of a call is the code of its checks
token-code : (r : Record) (page : List ℕ) (s : Session) (busy : Bool) (token : List ℕ) (pa size c : ℕ) →
    (token_of r page s busy token pa size c).answer.code ≡ token_code r page s busy token pa size c
unfolding token_of settled keeps send_of answer_of
token-code r page s busy token pa size c =
    if-ok-by (λ (t : TokenStep). t.answer.code ≡ token_code r page s busy token pa size c) (token_code r page s busy token pa size c) _ _
    (λ e. rw e) (λ e. refl)

-- the checks after those of page and buffer
abbrev pub TokenGives : Session → ℕ → ℕ → ℕ → Code → Type 0
TokenGives s len size c =
    Gives ((c ≡ 0) ⊎ ChallengeSize c → ⊥) Inval
    (Gives (size < c) Inval
    (Gives ((c ≡ 0) × (s ≡ Idle)) Inval
    (Gives ((len ≡ 0) ⊎ ((c ≡ 0) × ((sent : ℕ) → s ≡ Sending len sent → ⊥))) Unk
    Passes)))

rest_gives : (s : Session) (len size c : ℕ) → TokenGives s len size c (and_then (csize_code size c) (start_code s c len))
unfolding csize_code start_code
rest_gives s len size c =
    rw (then-fails _ Inval _ (start_code s c len) refl, then-fails _ Inval Ok (start_code s c len) refl, then-none)
    (gives _ _ Inval _ _ (tells-not _ _ (tells-listed c)) (λ l.
    gives _ _ Inval _ _ (tells-lt size c) (λ t.
    gives _ _ Inval _ _ (tells_both _ _ _ _ (tells-eq c 0) (tells-idle s)) (λ i.
    gives _ _ Unk _ _ (tells-start s c len) (λ k. refl)))))

pub token-codes : (r : Record) (page : List ℕ) (s : Session) (busy : Bool) (token : List ℕ) (pa size c : ℕ) →
    PageGives r (length page) (Gives (busy ≡ true) Again) BadAddr pa size (λ (u : Params). TokenGives s (length token) size c)
    (token_of r page s busy token pa size c).answer.code
unfolding token_code buffer_code outside_code
token-codes r page s busy token pa size c =
    rw (
      token-code r page s busy token pa size c,
      then-then (page_code r (length page) (fails busy Again Ok) BadAddress pa size)
          (csize_code size c) (start_code s c (length token)),
    )
    (page-gives r (length page) (fails busy Again Ok) BadAddress pa size (λ u. and_then (csize_code size c) (start_code s c (length token)))
    (Gives (busy ≡ true) Again) _
    (λ after next h. rw (then-fails busy Again Ok next refl, then-none)
    (gives busy (busy ≡ true) Again next after (tells-yes busy) (λ f. h)))
    (λ u e w o l. rest_gives s (length token) size c))

-- The lookup of the challenge: "empty if the record is not up, the page is not 4,096 bytes long, or a BAD_ADDR or INVAL check above
-- fails."; a busy platform does not matter
pub challenge-codes : (r : Record) (page : List ℕ) (pa size c : ℕ) →
    PageGives r (length page) (λ (after : Code → Type 0). after) BadAddr pa size (λ (u : Params).
    Gives ((c ≡ 0) ⊎ ChallengeSize c → ⊥) Inval
    (Gives (size < c) Inval
    Passes))
    (buffer_code r (length page) false pa size c)
unfolding buffer_code csize_code outside_code fails
challenge-codes r page pa size c =
    page-gives r (length page) Ok BadAddress pa size (λ u. csize_code size c) (λ (after : Code → Type 0). after) _
    (λ after next h. rw (then-none next) h)
    (λ u e w o l.
    gives _ _ Inval _ _ (tells-not _ _ (tells-listed c)) (λ f.
    gives _ _ Inval _ _ (tells-lt size c) (λ t. refl)))
