-- Token signing: the checks, return by return, and what a call leaves, case by case. Assumes nothing.
use Prim.Native.Nat.{ℕ, ◌+◌, ◌<◌, ◌≤◌}
use mathlib.Core.Path.{◌≡◌, refl, sym, ap, ◌∙◌}
use mathlib.Core.Bool.{Bool, true, false, true≢false}
use mathlib.Core.List.{List}
use native.Mathlib.Omega.{arith}
use lib.ListN.{length}
use borrow.Author.Tests.{eq-eqb, ne_eqb, lt-ltb, le-ltb}
use Rattle.words.specs.Word.{part, splice}
use Rattle.boot.specs.declared.Params.{Params}
use Rattle.boot.specs.declared.Record.{Record}
use Rattle.buffer_check.specs.Range.{place_of, page_code}
use Rattle.buffer_check.specs.declared.OutsideAs.TheVariants.{Invalid}
use Rattle.buffer_check.proofs.Ranges.{Passed, passed}
use Rattle.codes.specs.Codes.{is_up, boot_params, fails, and_then, is_ok, answer_of, gated}
use Rattle.codes.proofs.Gates.{first-ok, then-stop, went, stood, stops, goes, if-ok-by}
use Rattle.codes.specs.declared.Code.{Code}
use Rattle.codes.specs.declared.Code.TheVariants.{Ok, Unk, Inval, Again}
use Rattle.std.specs.Prelude.{Result, Err, Ok as Go}
use Rattle.queue.specs.declared.Queue.{Queue}
use Rattle.queue.specs.Queue.{Lists, SigningStep, SigningExit, queued, oldest_response, lists_of, exit_of}
use Rattle.queue.proofs.Steps.{goes_on}
use Rattle.queue_image.specs.Image.{lists_in}
use Rattle.queue_image.specs.OnImage.{ImageStep}
use Rattle.request_rules.specs.Push.{push_code, pushed, push_of}
use Rattle.response_rules.specs.Pull.{response_bytes, pull_code, pulled, pull_of}
use Rattle.signing.specs.Signing.{opcode_of, is_other, bad_curve, shared_code, public_code, public_of, op_of, put_back, op_at, signing_of}
use Rattle.signing.specs.OnImage.{signing_done, signing_on}
use Rattle.signing.specs.Steps.{op_on}
use Rattle.signing.specs.declared.Opcode.{Opcode}
use Rattle.signing.specs.declared.Opcode.TheVariants.{Push, Pull, Key, Other}
use Rattle.signing.proofs.Buffers.{buffer-length, back-same, back-over, pull-fits, public-fits}

-- ---- the checks that all opcodes share
module _ (r : Record) (len : ℕ) (o : Opcode) (pa size curve : ℕ) where
  pub shared-stop : (j : Code) → page_code r len (fails (is_other o) Inval Ok) Invalid pa size ≡ j → is_ok j ≡ false →
      shared_code r len o pa size curve ≡ j
  unfolding shared_code
  shared-stop j e h = then-stop _ _ j e h

  module _ (p : page_code r len (fails (is_other o) Inval Ok) Invalid pa size ≡ Ok) where
    pub shared-curve : bad_curve o curve ≡ true → shared_code r len o pa size curve ≡ Inval
    unfolding shared_code and_then fails
    shared-curve b = rw (p, b)

    module _ (b : bad_curve o curve ≡ false) where
      pub shared-minor : (boot_params r).minor < 4 → shared_code r len o pa size curve ≡ Unk
      unfolding shared_code and_then fails
      shared-minor m = rw (p, b, lt-ltb (boot_params r).minor 4 m)

      pub shared-ok : 4 ≤ (boot_params r).minor → shared_code r len o pa size curve ≡ Ok
      unfolding shared_code and_then fails
      shared-ok m = rw (p, b, le-ltb (boot_params r).minor 4 m)

  -- what follows from the common checks of a call that passes them
  pub shared-passed : shared_code r len o pa size curve ≡ Ok → Passed r len (fails (is_other o) Inval Ok) pa size
  unfolding shared_code
  shared-passed h = passed _ _ _ _ _ _ (first-ok _ _ h)

-- the gate of those checks, return by return, from the results of the functions that it calls
module _ (r : Record) (len : ℕ) (o : Opcode) (pa size curve : ℕ) (t : Bool) (ct : t ≡ is_other o) (k : Code) (ck : k ≡ fails t Inval Ok)
    (g : Result ℕ Code) (cg : g ≡ gated (page_code r len k Invalid pa size) (place_of (boot_params r) pa)) where
  page-gated : gated (page_code r len (fails (is_other o) Inval Ok) Invalid pa size) (place_of (boot_params r) pa) ≡ g
  page-gated = rw (← ct, ← ck) (sym cg)

  pub gate-stop : (j : Code) → g ≡ Err j → g ≡ gated (shared_code r len o pa size curve) (place_of (boot_params r) pa)
  gate-stop j h =
      let p = stood (page_code r len (fails (is_other o) Inval Ok) Invalid pa size) (place_of (boot_params r) pa) j (page-gated ∙ h) in
      h ∙ stops (shared_code r len o pa size curve) (place_of (boot_params r) pa) j (shared-stop r len o pa size curve j p.0 p.1) p.1

  pub gate-up : (at : ℕ) → g ≡ Go at → is_up r ≡ false → ⊥
  gate-up at h d =
      let p = went (page_code r len (fails (is_other o) Inval Ok) Invalid pa size) (place_of (boot_params r) pa) at (page-gated ∙ h) in
      true≢false (sym (passed r len (fails (is_other o) Inval Ok) Invalid pa size p.0).up ∙ d)

  module _ (at : ℕ) (h : g ≡ Go at) (b : Bool) (cb : b ≡ bad_curve o curve) where
    page-went : (page_code r len (fails (is_other o) Inval Ok) Invalid pa size ≡ Ok) × (at ≡ place_of (boot_params r) pa)
    page-went = went (page_code r len (fails (is_other o) Inval Ok) Invalid pa size) (place_of (boot_params r) pa) at (page-gated ∙ h)

    pub gate-curve : b ≡ true → Err Inval ≡ gated (shared_code r len o pa size curve) (place_of (boot_params r) pa)
    gate-curve y =
        stops (shared_code r len o pa size curve) (place_of (boot_params r) pa) Inval
        (shared-curve r len o pa size curve page-went.0 (sym cb ∙ y)) refl

    module _ (n : b ≡ false) (u : Params) (cu : u ≡ boot_params r) where
      pub gate-minor : u.minor < 4 → Err Unk ≡ gated (shared_code r len o pa size curve) (place_of (boot_params r) pa)
      gate-minor m =
          stops (shared_code r len o pa size curve) (place_of (boot_params r) pa) Unk
          (shared-minor r len o pa size curve page-went.0 (sym cb ∙ n) (rw (← cu) m)) refl

      pub gate-go : 4 ≤ u.minor → Go at ≡ gated (shared_code r len o pa size curve) (place_of (boot_params r) pa)
      gate-go m =
          goes (shared_code r len o pa size curve) (place_of (boot_params r) pa) at
          (shared-ok r len o pa size curve page-went.0 (sym cb ∙ n) (rw (← cu) m)) page-went.1

-- ---- a call, from its opcode and gate
module _ (r : Record) (page : List ℕ) (op pa size curve : ℕ) (g : Result ℕ Code)
    (cg : g ≡ gated (shared_code r (length page) (opcode_of op) pa size curve) (place_of (boot_params r) pa)) where
  pub told-stop : (j : Code) → g ≡ Err j → (shared_code r (length page) (opcode_of op) pa size curve ≡ j) × (is_ok j ≡ false)
  told-stop j h = stood (shared_code r (length page) (opcode_of op) pa size curve) (place_of (boot_params r) pa) j (sym cg ∙ h)

  module _ (at : ℕ) (h : g ≡ Go at) where
    shared-went : (shared_code r (length page) (opcode_of op) pa size curve ≡ Ok) × (at ≡ place_of (boot_params r) pa)
    shared-went = went (shared_code r (length page) (opcode_of op) pa size curve) (place_of (boot_params r) pa) at (sym cg ∙ h)

    -- the buffer is within the page
    pub told-room : at + size ≤ length page
    told-room =
        let p = shared-passed r (length page) (opcode_of op) pa size curve shared-went.0 in
        omega (arith, shared-went.1, p.whole, p.room)

    -- and the answer is that of the opcode on it
    module _ (o : Opcode) (co : o ≡ opcode_of op) where
      pub told-op : (q : Lists) (key : List ℕ) → op_at o at size page q key ≡ signing_of r page q key op pa size curve
      unfolding signing_of
      told-op q key =
          rw (co, shared-went.1) (goes_on (shared_code r (length page) (opcode_of op) pa size curve) page q
          (op_at (opcode_of op) (place_of (boot_params r) pa) size page q key) shared-went.0)

      pub told-served : (old : Queue) (key : List ℕ) (x : SigningExit) → x ≡ exit_of old (op_at o at size page (lists_of old) key) →
          x ≡ exit_of old (signing_of r page (lists_of old) key op pa size curve)
      told-served old key x e = e ∙ rw (told-op (lists_of old) key)

      pub told-served-on : (w key : List ℕ) (x : ImageStep) → x ≡ op_on o at size page w key → x ≡ signing_on r page w key op pa size curve
      unfolding op_on signing_on signing_done
      told-served-on w key x e = e ∙ rw (told-op (lists_in w) key, co, shared-went.1)

-- ---- the public key
module _ (size : ℕ) (key : List ℕ) where
  pub public-empty : length key ≡ 0 → public_code size key ≡ Again
  unfolding public_code fails
  public-empty h = rw (eq-eqb (length key) 0 h)

  module _ (n : length key ≡ 0 → ⊥) where
    pub public-long : size < length key → public_code size key ≡ Inval
    unfolding public_code fails
    public-long h = rw (ne_eqb (length key) 0 n, lt-ltb size (length key) h)

    pub public-ok : length key ≤ size → public_code size key ≡ Ok
    unfolding public_code fails
    public-ok h = rw (ne_eqb (length key) 0 n, le-ltb size (length key) h)

-- ---- what a call leaves
-- A property of opcode and step that holds in each case: refused, or OK by one of the opcodes, with what follows from the common checks.
pub record Cases (P : Opcode → SigningStep → Type 0) (r : Record) (page : List ℕ) (q : Lists) (key : List ℕ) (pa size : ℕ) : Type 0 where
  pub refusal : (o : Opcode) (k : Code) → is_ok k ≡ false → P o (record { answer = answer_of k 0 0; page = page; queue = q })
  pub push : Passed r (length page) Ok pa size → push_code (part (place_of (boot_params r) pa) size page) q ≡ Ok → P Push
      (record { answer = answer_of Ok 0 0; page = page; queue = pushed (part (place_of (boot_params r) pa) size page) q })
  pub pull : Passed r (length page) Ok pa size → pull_code size q ≡ Ok → P Pull
      (record {
        answer = answer_of Ok 0 0;
        page = splice (place_of (boot_params r) pa) (response_bytes (oldest_response q.responses)) page;
        queue =
            pulled q;
      })
  pub public : Passed r (length page) Ok pa size → public_code size key ≡ Ok → P Key (record { answer = answer_of Ok (length key) 0; page = splice (place_of (boot_params r) pa) key page; queue = q })

-- ---- an opcode on its buffer, by the code of its own checks: the buffer at exit, as part of the page
op-by : (at size : ℕ) (page : List ℕ) (q : Lists) → at + size ≤ length page → (P : SigningStep → Type 0) →
    ((k : Code) → is_ok k ≡ false → P (record { answer = answer_of k 0 0; page = page; queue = q })) →
    (k : Code) (new : SigningStep) (after : List ℕ) → (k ≡ Ok → splice at new.page page ≡ after) →
    (k ≡ Ok → P (record { answer = new.answer; page = after; queue = new.queue })) →
    P (put_back at page (queued k new (part at size page) q))
unfolding queued put_back
op-by at size page q room P f k new after e g =
    if-ok-by (λ (s : SigningStep). P (record { answer = s.answer; page = splice at s.page page; queue = s.queue })) k new
    (record { answer = answer_of k 0 0; page = part at size page; queue = q })
    (λ h. rw (e h) (g h)) (λ h. rw (back-same at size page room) (f k h))

module _ (P : Opcode → SigningStep → Type 0) (r : Record) (page : List ℕ) (q : Lists) (key : List ℕ) (op pa size curve : ℕ)
    (c : Cases P r page q key pa size) where
  at : ℕ
  at = place_of (boot_params r) pa

  room : Passed r (length page) Ok pa size → at + size ≤ length page
  unfolding at
  room p = omega (arith, p.whole, p.room)

  op-cases : (o : Opcode) → Passed r (length page) (fails (is_other o) Inval Ok) pa size → P o (op_at o at size page q key)
  unfolding at op_at op_of is_other fails push_of pull_of public_of
  op-cases Push p =
      op-by at size page q (room p) (P Push) (c.refusal Push) (push_code (part at size page) q) _ page
      (λ e. back-same at size page (room p)) (λ e. c.push p e)
  op-cases Pull p =
      op-by at size page q (room p) (P Pull) (c.refusal Pull) (pull_code (length (part at size page)) q) _
      (splice at (response_bytes (oldest_response q.responses)) page)
      (λ e. back-over at size page (room p) _ (pull-fits size q (rw (buffer-length at size page (room p)) at e)))
      (λ e. c.pull p (rw (buffer-length at size page (room p)) at e))
  op-cases Key p =
      op-by at size page q (room p) (P Key) (c.refusal Key) (public_code (length (part at size page)) key) _ (splice at key page)
      (λ e. back-over at size page (room p) key (public-fits size key (rw (buffer-length at size page (room p)) at e)))
      (λ e. c.public p (rw (buffer-length at size page (room p)) at e))
  op-cases Other p = absurd (true≢false (ap is_ok (sym p.ready)))

  signing-cases : (o : Opcode) → P o (queued (shared_code r (length page) o pa size curve) (op_at o at size page q key) page q)
  unfolding queued
  signing-cases o =
      if-ok-by (P o) (shared_code r (length page) o pa size curve) _ _ (λ h. op-cases o (shared-passed r (length page) o pa size curve h))
      (λ h. c.refusal o _ h)

  -- the property holds of the call
  pub signing-by : P (opcode_of op) (signing_of r page q key op pa size curve)
  unfolding signing_of at
  signing-by = signing-cases (opcode_of op)

-- a refused call leaves the page and both sides unchanged, with zeros in x1 and x2
pub signing-refused : (r : Record) (page : List ℕ) (q : Lists) (key : List ℕ) (op pa size curve : ℕ) →
    is_ok (signing_of r page q key op pa size curve).answer.code ≡ false →
    signing_of r page q key op pa size curve ≡ record {
      answer = answer_of (signing_of r page q key op pa size curve).answer.code 0 0;
      page = page;
      queue = q;
    }
unfolding answer_of
signing-refused r page q key op pa size curve =
    signing-by (λ (o : Opcode) (s : SigningStep). is_ok s.answer.code ≡ false →
    s ≡ record { answer = answer_of s.answer.code 0 0; page = page; queue = q }) r page q key op pa size curve
    (record {
      refusal = λ o k e h. refl;
      push = λ p e h. absurd (true≢false h);
      pull = λ p e h. absurd (true≢false h);
      public = λ p e h. absurd (true≢false h);
    })
