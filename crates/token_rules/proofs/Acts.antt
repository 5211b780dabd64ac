-- When the checks of record, page, platform and buffer pass, and what the lookup of a challenge then shows. The statements list the rules'
-- conditions and use no definition of the checks. Assumes nothing.
use Prim.Native.Nat.{ℕ, ◌-◌, ◌≤◌}
use mathlib.Core.Path.{◌≡◌, refl, sym, ap, ◌∙◌}
use mathlib.Core.Bool.{Bool, true, false, true≢false}
use mathlib.Core.List.{List, []}
use mathlib.Core.Logic.{◌⊎◌, inl, inr}
use native.Mathlib.Omega.{arith}
use lib.ListN.{length, drop, length-drop}
use lib.Seq.{length-take-le}
use lib.Dec.{eqb}
use borrow.Author.Tests.{eq-eqb, ne_eqb, eqb-true, eqb-false, ltb-false}
use Rattle.words.specs.Tests.{both, either}
use Rattle.words.proofs.Tests.{either-cases}
use Rattle.words.specs.Word.{part, span_at}
use Rattle.boot.specs.declared.Params.{Params}
use Rattle.boot.specs.declared.Record.{Record}
use Rattle.boot.specs.declared.Record.TheVariants.{Up}
use Rattle.buffer_check.specs.Range.{place_of}
use Rattle.buffer_check.specs.Buffers.{BufferIn}
use Rattle.buffer_check.specs.declared.OutsideAs.TheVariants.{BadAddress}
use Rattle.buffer_check.proofs.Ranges.{passed}
use Rattle.buffer_check.proofs.Buffers.{in-passes, in-room, passed-in}
use Rattle.codes.specs.Codes.{boot_params, is_false, fails, if_ok}
use Rattle.codes.specs.declared.Code.{Code}
use Rattle.codes.specs.declared.Code.TheVariants.{Ok, Again}
use Rattle.codes.proofs.Gates.{fails-ok, unless-ok, either-ok, first-ok, then_ok, then-go, if-ok-by}
use Rattle.token_rules.specs.Token.{is_idle, whole_of, listed, csize_code, buffer_code, start_code, token_code, challenge_of, challenge_span}
use Rattle.token_rules.specs.Calls.{TokenCall, token_accepted, Ready}
use Rattle.token_rules.specs.Acts.{ChallengeSize, BufferPassed, TokenPassed, ChallengeActed}
use Rattle.token_rules.specs.declared.Session.{Session}
use Rattle.token_rules.specs.declared.Session.TheVariants.{Idle}
use Rattle.token_rules.proofs.Tokens.{csize-ok}
use Rattle.token_rules.proofs.Calls.{code_ok}

pub listed-size : (c : ℕ) → (c ≡ 0) ⊎ ChallengeSize c → listed c ≡ true
unfolding listed either
listed-size c (inl e) = ap listed e
listed-size c (inr (inl e)) = ap listed e
listed-size c (inr (inr (inl e))) = ap listed e
listed-size c (inr (inr (inr e))) = ap listed e

size-there : (c : ℕ) → ChallengeSize c → c ≡ 0 → ⊥
size-there c (inl e) z = omega arith
size-there c (inr (inl e)) z = omega arith
size-there c (inr (inr e)) z = omega arith

buffer-passes : (u : Params) (page : List ℕ) (busy : Bool) (pa size c : ℕ) → busy ≡ false → BufferIn u page pa size →
    (c ≡ 0) ⊎ ChallengeSize c → c ≤ size →
    buffer_code (Up u) (length page) busy pa size c ≡ Ok
unfolding buffer_code fails
buffer-passes u page busy pa size c b i k h =
    then-go _ _ (in-passes u page pa size i (fails busy Again Ok) BadAddress (rw b)) ∙ csize-ok size c (listed-size c k) h

-- and only then
listed-only : (c : ℕ) → listed c ≡ true → (c ≡ 0) ⊎ ChallengeSize c
unfolding listed
listed-only c =
    either-cases _ _ (λ e. inl (eqb-true _ _ e))
    (either-cases _ _ (λ e. inr (inl (eqb-true _ _ e))) (either-cases _ _ (λ e. inr (inr (inl (eqb-true _ _ e))))
    (λ e. inr (inr (inr (eqb-true _ _ e))))))

buffer-only : (r : Record) (page : List ℕ) (busy : Bool) (pa size c : ℕ) → buffer_code r (length page) busy pa size c ≡ Ok →
    BufferPassed r page busy pa size c
unfolding buffer_code csize_code
buffer-only r page busy pa size c h =
    let p = passed _ _ _ _ _ _ (first-ok _ _ h) in
    let l = unless-ok _ _ _ refl (then_ok _ _ h) in
    let t = fails-ok _ _ _ refl l.1 in
    record {
      up = p.up;
      free = (fails-ok _ _ _ refl p.ready).0;
      buffer = passed-in r page _ pa size p;
      listed = listed-only c l.0;
      holds = ltb-false _ _ t.0;
    }

-- A call passes the checks that look at neither session nor token if the platform is not busy, the record is up, the page has 4,096 bytes,
-- the buffer is within it, and c_size is 0, 32, 48 or 64 and at most the buffer's size. `token-starts` and `token-goes` need this.
pub token-ready : (x : TokenCall) (u : Params) → x.state ≡ Up u → x.busy ≡ false → BufferIn u x.page x.pa x.size →
    (x.csize ≡ 0) ⊎ ChallengeSize x.csize → x.csize ≤ x.size → Ready x
unfolding Ready
token-ready x u e b i k h = rw e (buffer-passes u x.page x.busy x.pa x.size x.csize b i k h)

unless_not : (b : Bool) → is_false b ≡ false → b ≡ true
unfolding is_false
unless_not true h = refl
unless_not false h = absurd (true≢false h)

start-only : (s : Session) (c len : ℕ) → start_code s c len ≡ Ok → (1 ≤ len) × (c ≡ 0 → (s ≡ Idle → ⊥) × (len ≡ whole_of s))
unfolding start_code both is_idle
start-only s c len h =
    let a = fails-ok _ _ _ refl h in
    let b = either-ok _ _ _ _ refl a.1 in (
      omega (arith, eqb-false len 0 b.0),
      λ z.
          let i : is_idle s ≡ false = rw (eq-eqb c 0 z) at a.0 in
          let w : is_false (eqb len (whole_of s)) ≡ false = rw (eq-eqb c 0 z) at b.1 in
          (λ e. true≢false (ap is_idle (sym e) ∙ i), eqb-true _ _ (unless_not _ w)),
    )

-- a call that is OK passes these checks and those of session and token
pub token-only : (s : Session) (x : TokenCall) → token_accepted s x ≡ true → TokenPassed s x
unfolding token_code
token-only s x h =
    let k = code_ok s x h in
    let t = start-only s x.csize (length x.token) (then_ok _ _ k) in
    record { passed = buffer-only x.state x.page x.busy x.pa x.size x.csize (first-ok _ _ k); token = t.0; begun = t.1 }

-- "A lookup before a start shows the challenge": with the record up, a page of 4,096 bytes, a buffer within it, and a challenge size of at
-- most the buffer's size
pub challenge-acts : (u : Params) (page : List ℕ) (pa size c : ℕ) → BufferIn u page pa size → ChallengeSize c → c ≤ size →
    ChallengeActed u page pa c (challenge_of (Up u) page pa size c) (challenge_span (Up u) page pa size c)
    (buffer_code (Up u) (length page) false pa size c)
unfolding challenge_of challenge_span part span_at place_of boot_params
challenge-acts u page pa size c i k h =
    let p = buffer-passes u page false pa size c refl i (inr k) h in
    let e : challenge_of (Up u) page pa size c ≡ part (pa - u.base) c page = ap (λ (j : Code). if_ok j (part (pa - u.base) c page) []) p in
    record {
      there = e;
      whole =
          ap length e ∙ length-take-le c (drop (pa - u.base) page)
          (omega (arith, length-drop (pa - u.base) page, in-room u page pa size i));
      named = rw (p, ne_eqb c 0 (size-there c k));
      passes = p;
    }

-- "empty if the record is not up, the page is not 4,096 bytes long, or a BAD_ADDR or INVAL check above fails": a challenge is shown only
-- then
pub challenge-only : (r : Record) (page : List ℕ) (pa size c : ℕ) → (challenge_of r page pa size c ≡ [] → ⊥) →
    BufferPassed r page false pa size c
unfolding challenge_of
challenge-only r page pa size c f =
    let k : Code = buffer_code r (length page) false pa size c in
    buffer-only r page false pa size c (if-ok-by (λ (l : List ℕ). (l ≡ [] → ⊥) → k ≡ Ok) k (part (place_of (boot_params r) pa) c page) []
    (λ e g. e) (λ e g. absurd (g refl)) f)
