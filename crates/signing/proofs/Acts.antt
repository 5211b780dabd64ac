-- When token signing is OK, and what it then does. The statements list the conditions of CM7 and use no definition of the checks. Assumes
-- nothing.
use Prim.Native.Nat.{ℕ, ◌+◌, ◌-◌, ◌≤◌, ◌<◌}
use mathlib.Core.Path.{◌≡◌, refl, sym, ap, ◌∙◌}
use mathlib.Core.Bool.{false, true≢false}
use mathlib.Core.List.{List, ◌∷◌}
use native.Mathlib.Omega.{arith}
use lib.ListN.{length}
use lib.Dec.{ltb}
use borrow.Author.Tests.{ltb-false, eqb-true, eqb-false, ne_eqb}
use Rattle.words.specs.Word.{part, u32_at}
use Rattle.boot.specs.declared.Params.{Params}
use Rattle.boot.specs.declared.Record.{Record}
use Rattle.boot.specs.declared.Record.TheVariants.{Up}
use Rattle.buffer_check.specs.Range.{place_of}
use Rattle.buffer_check.specs.Buffers.{BufferIn}
use Rattle.buffer_check.specs.declared.OutsideAs.TheVariants.{Invalid}
use Rattle.buffer_check.proofs.Ranges.{Passed}
use Rattle.buffer_check.proofs.Buffers.{in-passes, in-room, passed-in, splice-written}
use Rattle.codes.specs.Codes.{is_false, boot_params, is_ok, fails, extended, x0_of, answer_of}
use Rattle.codes.specs.declared.Code.TheVariants.{Ok, Unk, Inval}
use Rattle.codes.specs.declared.Answer.{Answer}
use Rattle.codes.proofs.Gates.{fails-ok, unless-ok, then_ok}
use Rattle.queue.specs.declared.Request.{Request}
use Rattle.queue.specs.Queue.{Signed, Lists, SigningStep, queued, oldest_response}
use Rattle.queue.proofs.Acts.{queued-ok}
use Rattle.request_rules.specs.Push.{request_of, pushed}
use Rattle.request_rules.proofs.Acts.{buffer-push-acts, push-told}
use Rattle.response_rules.specs.Pull.{response_bytes, pulled}
use Rattle.response_rules.proofs.Acts.{buffer-pull-acts, pull-told}
use Rattle.signing.specs.Signing.{opcode_of, is_other, bad_curve, shared_code, public_code, public_of, op_of, put_back, op_at, signing_of}
use Rattle.signing.specs.Acts.{SigningPassed, PushActed, PullActed, PublicActed}
use Rattle.signing.specs.declared.Opcode.{Opcode}
use Rattle.signing.specs.declared.Opcode.TheVariants.{Push, Pull, Key, Other}
use Rattle.signing.proofs.Buffers.{buffer-length}
use Rattle.signing.proofs.Signings.{shared-ok, shared-passed, public-ok, signing-by}

-- ---- when it is OK: with the record up at minor 4 or more, a page of 4,096 bytes and a buffer within it
module _ (u : Params) (page : List ℕ) (key : List ℕ) (pa size : ℕ) (i : BufferIn u page pa size) (m : 4 ≤ u.minor) where
  buffer : List ℕ
  buffer = part (pa - u.base) size page

  buffer-size : length buffer ≡ size
  unfolding buffer
  buffer-size = buffer-length (pa - u.base) size page (in-room u page pa size i)

  -- the checks that all opcodes share pass, and the answer is that of the opcode on its buffer
  shared-passes : (o : Opcode) (curve : ℕ) → is_other o ≡ false → bad_curve o curve ≡ false →
      shared_code (Up u) (length page) o pa size curve ≡ Ok
  unfolding boot_params fails
  shared-passes o curve n b =
      shared-ok (Up u) (length page) o pa size curve (in-passes u page pa size i (fails (is_other o) Inval Ok) Invalid (rw n)) b m

  op-answer : (q : Lists) (op curve : ℕ) → is_other (opcode_of op) ≡ false → bad_curve (opcode_of op) curve ≡ false →
      (signing_of (Up u) page q key op pa size curve).answer ≡ (op_of (opcode_of op) buffer q key).answer
  unfolding signing_of queued op_at put_back place_of boot_params buffer
  op-answer q op curve n b = rw (shared-passes (opcode_of op) curve n b)

  -- push: a size of 80 or more, algorithm id 0, hash id 1, and fewer than eight requests waiting
  pub push-passes : (q : Lists) (curve : ℕ) → 80 ≤ size → u32_at 0 (part (pa - u.base) size page) ≡ 0 →
      u32_at 24 (part (pa - u.base) size page) ≡ 1 → length q.requests < 8 →
      (signing_of (Up u) page q key 1 pa size curve).answer.code ≡ Ok
  unfolding opcode_of is_other bad_curve op_of buffer
  push-passes q curve l a h n =
      ap (λ (a : Answer). a.code) (op-answer q 1 curve refl refl) ∙
      ap (λ (s : SigningStep). s.answer.code) (buffer-push-acts buffer q (omega (arith, buffer-size)) a h n)

  -- pull: a response waits, and 18 + its signature's length is at most the size
  pub pull-passes : (asked : List Request) (r : Signed) (rest : List Signed) (curve : ℕ) → 18 + length r.signature ≤ size →
      (signing_of (Up u) page (record { requests = asked; responses = r ∷ rest }) key 2 pa size curve).answer.code ≡ Ok
  unfolding opcode_of is_other bad_curve op_of
  pull-passes asked r rest curve l =
      ap (λ (a : Answer). a.code) (op-answer (record { requests = asked; responses = r ∷ rest }) 2 curve refl refl)
      ∙ ap (λ (s : SigningStep). s.answer.code) (buffer-pull-acts buffer asked r rest (omega (arith, buffer-size)))

  -- key: curve 0, and a public key that is neither empty nor longer than the size
  pub public-passes : (q : Lists) → (length key ≡ 0 → ⊥) → length key ≤ size → (signing_of (Up u) page q key 3 pa size 0).answer.code ≡ Ok
  unfolding opcode_of is_other bad_curve op_of public_of queued is_false answer_of
  public-passes q n l =
      ap (λ (a : Answer). a.code) (op-answer q 3 0 refl refl) ∙ rw (public-ok (length buffer) key n (omega (arith, buffer-size)))

-- ---- what an OK does
module _ (r : Record) (page : List ℕ) (q : Lists) (key : List ℕ) (pa size curve : ℕ) where
  at : ℕ
  at = place_of (boot_params r) pa

  within : Passed r (length page) Ok pa size → at ≤ length page
  unfolding at
  within p = omega (arith, p.whole, p.room)

  abbrev Acted : Opcode → SigningStep → Type 0
  Acted Push s = PushActed (part at size page) page q s
  Acted Pull s = PullActed at page q s
  Acted Key s = PublicActed at page q key s
  Acted Other s = Unit {0}

  acts : (op : ℕ) → (signing_of r page q key op pa size curve).answer.code ≡ Ok →
      Acted (opcode_of op) (signing_of r page q key op pa size curve)
  unfolding at answer_of x0_of extended pushed request_of pulled oldest_response response_bytes
  acts op =
      signing-by (λ (o : Opcode) (s : SigningStep). s.answer.code ≡ Ok → Acted o s) r page q key op pa size curve
      (record {
        refusal = λ o k e h. absurd (true≢false (ap is_ok (sym h) ∙ e));
        push = λ p e h. refl;
        pull = λ p e h x rest d. rw d (record { told = refl; left = refl; written = splice-written at _ page (within p) });
        public = λ p e h. record { told = refl; left = refl; written = splice-written at key page (within p) };
      })

  pub push-acts : (signing_of r page q key 1 pa size curve).answer.code ≡ Ok →
      PushActed (part (place_of (boot_params r) pa) size page) page q (signing_of r page q key 1 pa size curve)
  unfolding at opcode_of
  push-acts = acts 1

  pub pull-acts : (signing_of r page q key 2 pa size curve).answer.code ≡ Ok →
      PullActed (place_of (boot_params r) pa) page q (signing_of r page q key 2 pa size curve)
  unfolding at opcode_of
  pull-acts = acts 2

  pub public-acts : (signing_of r page q key 3 pa size curve).answer.code ≡ Ok →
      PublicActed (place_of (boot_params r) pa) page q key (signing_of r page q key 3 pa size curve)
  unfolding at opcode_of
  public-acts = acts 3

  -- ---- and only then
  shared-told : (op : ℕ) → (signing_of r page q key op pa size curve).answer.code ≡ Ok → SigningPassed r page pa size ×
      (fails (bad_curve (opcode_of op) curve) Inval (fails (ltb (boot_params r).minor 4) Unk Ok) ≡ Ok)
  unfolding signing_of shared_code
  shared-told op h =
      let k = queued-ok (shared_code r (length page) (opcode_of op) pa size curve) _ page q h in
      let p = shared-passed r (length page) (opcode_of op) pa size curve k in
      let b = fails-ok _ _ _ refl (then_ok _ _ k) in
      let m = fails-ok _ _ _ refl b.1 in
      (record { up = p.up; minor = ltb-false _ _ m.0; buffer = passed-in r page _ pa size p }, then_ok _ _ k)

  abbrev Told : Opcode → Type 0
  Told Push = (80 ≤ size) × (u32_at 0 (part at size page) ≡ 0) × (u32_at 24 (part at size page) ≡ 1) × (length q.requests < 8)
  Told Pull = (1 ≤ length q.responses) × (18 + length (oldest_response q.responses).signature ≤ size)
  Told Key = (1 ≤ length key) × (length key ≤ size)
  Told Other = ⊥

  pub public-told : public_code size key ≡ Ok → (1 ≤ length key) × (length key ≤ size)
  unfolding public_code
  public-told h =
      let n = fails-ok _ _ _ refl h in
      let l = fails-ok _ _ _ refl n.1 in
      (omega (arith, eqb-false (length key) 0 n.0), ltb-false _ _ l.0)

  tells : (op : ℕ) → (signing_of r page q key op pa size curve).answer.code ≡ Ok → Told (opcode_of op)
  unfolding at answer_of
  tells op =
      signing-by (λ (o : Opcode) (s : SigningStep). s.answer.code ≡ Ok → Told o) r page q key op pa size curve
      (record {
        refusal = λ o k e h. absurd (true≢false (ap is_ok (sym h) ∙ e));
        push = λ p e h.
            let t = push-told _ q e in
            (rw (buffer-length at size page (omega (arith, p.whole, p.room))) at t.0, t.1, t.2, t.3);
        pull = λ p e h. pull-told size q e;
        public = λ p e h. public-told e;
      })

  pub push-only : (signing_of r page q key 1 pa size curve).answer.code ≡ Ok →
      SigningPassed r page pa size × (80 ≤ size) × (u32_at 0 (part (place_of (boot_params r) pa) size page) ≡ 0) ×
      (u32_at 24 (part (place_of (boot_params r) pa) size page) ≡ 1) × (length q.requests < 8)
  unfolding at opcode_of
  push-only h = let t = tells 1 h in ((shared-told 1 h).0, t.0, t.1, t.2, t.3)

  pub pull-only : (signing_of r page q key 2 pa size curve).answer.code ≡ Ok →
      SigningPassed r page pa size × (1 ≤ length q.responses) × (18 + length (oldest_response q.responses).signature ≤ size)
  unfolding opcode_of
  pull-only h = let t = tells 2 h in ((shared-told 2 h).0, t.0, t.1)

  pub public-only : (signing_of r page q key 3 pa size curve).answer.code ≡ Ok →
      SigningPassed r page pa size × (curve ≡ 0) × (1 ≤ length key) × (length key ≤ size)
  unfolding opcode_of bad_curve
  public-only h =
      let s = shared-told 3 h in
      let t = tells 3 h in
      (s.0, eqb-true _ _ (unless-ok _ _ _ refl s.1).0, t.0, t.1)

  -- "opcode not 1 to 3 .. INVAL": no other is OK
  pub no_other : (op : ℕ) → (op ≡ 1 → ⊥) → (op ≡ 2 → ⊥) → (op ≡ 3 → ⊥) → (signing_of r page q key op pa size curve).answer.code ≡ Ok → ⊥
  unfolding opcode_of
  no_other op a b c h = let t = tells op h in rw (ne_eqb op 1 a, ne_eqb op 2 b, ne_eqb op 3 c) at t
