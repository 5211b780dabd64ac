-- When token signing gives each of its codes. "opcode not 1 to 3, outside, too long, or opcode 3 with curve not 0: INVAL; minor below 4:
-- UNK. Push (1): size below 80, algorithm id not 0 or hash id not 1: INVAL; eight requests waiting: AGAIN; .. Pull (2): no response AGAIN;
-- 18 + signature length above size INVAL, .. Key (3): empty AGAIN; longer than size INVAL;" Assumes nothing.
use Prim.Native.Nat.{ℕ, ◌+◌, ◌-◌, ◌≤◌, ◌<◌}
use mathlib.Core.Path.{◌≡◌, refl, sym, ◌∙◌}
use mathlib.Core.Bool.{false}
use mathlib.Core.List.{List, [], ◌∷◌}
use mathlib.Core.Logic.{◌⊎◌, inl, inr}
use native.Mathlib.Omega.{arith}
use native.Mathlib.Decide.{ℕ_discrete}
use lib.ListN.{length}
use lib.Dec.{ltb, eqb}
use borrow.Author.Tests.{ne_eqb, eqb-true, ltb-false, leb-false}
use Rattle.words.specs.Word.{part, u32_at}
use Rattle.boot.specs.declared.Params.{Params}
use Rattle.boot.specs.declared.Record.{Record}
use Rattle.codes.specs.Codes.{boot_params, is_false, fails, and_then, answer_of}
use Rattle.codes.specs.Reasons.{Gives, Passes}
use Rattle.codes.specs.declared.Code.{Code}
use Rattle.codes.specs.declared.Code.TheVariants.{Ok, Unk, Inval, Again}
use Rattle.codes.proofs.Gates.{if-ok-by}
use Rattle.codes.proofs.Reasons.{Tells, tells-lt, tells-le, tells-eq, tells-not, gives, unless_not, then-fails, then-then, then-none}
use Rattle.buffer_check.specs.Range.{outside, too_long, place_of, outside_code, page_code}
use Rattle.buffer_check.specs.Reasons.{PageGives}
use Rattle.buffer_check.specs.declared.OutsideAs.TheVariants.{Invalid}
use Rattle.buffer_check.proofs.Ranges.{neither}
use Rattle.buffer_check.proofs.Reasons.{page-gives}
use Rattle.queue.specs.Queue.{Signed, Lists, SigningStep, queued, oldest_response}
use Rattle.request_rules.specs.Push.{request_of, push_code, push_of}
use Rattle.response_rules.specs.Pull.{pull_code, pull_of}
use Rattle.signing.specs.Signing.{opcode_of, is_other, bad_curve, shared_code, public_code, public_of, op_of, put_back, op_at, signing_of}
use Rattle.signing.specs.declared.Opcode.TheVariants.{Push, Pull, Key}
use Rattle.signing.proofs.Buffers.{buffer-length}

-- ---- an opcode's own checks, for the buffer b of `size` bytes
abbrev pub PushGives : ℕ → List ℕ → Lists → Code → Type 0
PushGives size b q =
    Gives (size < 80) Inval
    (Gives (u32_at 0 b ≡ 0 → ⊥) Inval
    (Gives (u32_at 24 b ≡ 1 → ⊥) Inval
    (Gives (8 ≤ length q.requests) Again
    Passes)))

abbrev pub PullGives : ℕ → Lists → Code → Type 0
PullGives size q =
    Gives (length q.responses ≡ 0) Again
    (Gives ((x : Signed) (rest : List Signed) → q.responses ≡ x ∷ rest → size < 18 + length x.signature) Inval
    Passes)

abbrev pub PublicGives : ℕ → List ℕ → Code → Type 0
PublicGives size key =
    Gives (length key ≡ 0) Again
    (Gives (size < length key) Inval
    Passes)

-- the checks of an opcode, by its number
abbrev pub OpGives : ℕ → ℕ → List ℕ → Lists → List ℕ → Code → Type 0
OpGives op size b q key k = (op ≡ 1 → PushGives size b q k) × (op ≡ 2 → PullGives size q k) × (op ≡ 3 → PublicGives size key k)

-- a step with code k answers k
queued-code : (k : Code) (new : SigningStep) (page : List ℕ) (q : Lists) → new.answer.code ≡ Ok → (queued k new page q).answer.code ≡ k
unfolding queued answer_of
queued-code k new page q h = if-ok-by (λ (s : SigningStep). s.answer.code ≡ k) k new _ (λ e. h ∙ sym e) (λ e. refl)

queued-by : (T : Code → Type 0) (k : Code) (new : SigningStep) (page : List ℕ) (q : Lists) → new.answer.code ≡ Ok → T k →
    T (queued k new page q).answer.code
queued-by T k new page q h t = rw (queued-code k new page q h) t

push-gives : (b : List ℕ) (q : Lists) (key : List ℕ) → PushGives (length b) b q (op_of Push b q key).answer.code
unfolding op_of push_of push_code request_of answer_of
push-gives b q key =
    queued-by (PushGives (length b) b q) (push_code b q) _ b q refl
    (gives _ _ Inval _ _ (tells-lt (length b) 80) (λ s.
    gives _ _ Inval _ _ (tells-not _ _ (tells-eq (u32_at 0 b) 0)) (λ a.
    gives _ _ Inval _ _ (tells-not _ _ (tells-eq (u32_at 24 b) 1)) (λ h.
    gives _ _ Again _ _ (tells-le 8 (length q.requests)) (λ n. refl)))))

-- the oldest response is the first
pull-lines : (size : ℕ) (l : List Signed) →
    Gives (length l ≡ 0) Again (Gives ((x : Signed) (rest : List Signed) → l ≡ x ∷ rest → size < 18 + length x.signature) Inval Passes)
    (fails (eqb (length l) 0) Again (fails (ltb size (18 + length (oldest_response l).signature)) Inval Ok))
unfolding fails oldest_response
pull-lines size [] = record { where-it-holds = λ e. refl; elsewhere = λ n. absurd (n refl) }
pull-lines size (y ∷ l) = gives _ _ Again _ _ (tells-eq (length (y ∷ l)) 0) (λ n. gives _ _ Inval _ _ first (λ k. refl))
  where
    first : Tells (ltb size (18 + length y.signature)) ((x : Signed) (rest : List Signed) → y ∷ l ≡ x ∷ rest →
        size < 18 + length x.signature)
    first =
        let t = tells-lt size (18 + length y.signature) in
        record { yes-if = λ h. t.yes-if (h y l refl); no-if = λ h. t.no-if (λ k. h (λ x rest e. let w : y ≡ x = cc in rw (← w) k)) }

pull-gives : (b : List ℕ) (q : Lists) (key : List ℕ) → PullGives (length b) q (op_of Pull b q key).answer.code
unfolding op_of pull_of pull_code answer_of
pull-gives b q key =
    queued-by (PullGives (length b) q) (pull_code (length b) q) _ b q refl (pull-lines (length b) q.responses)

public-gives : (b : List ℕ) (q : Lists) (key : List ℕ) → PublicGives (length b) key (op_of Key b q key).answer.code
unfolding op_of public_of public_code answer_of
public-gives b q key =
    queued-by (PublicGives (length b) key) (public_code (length b) key) _ b q refl
    (gives _ _ Again _ _ (tells-eq (length key) 0) (λ n.
    gives _ _ Inval _ _ (tells-lt (length b) (length key)) (λ l. refl)))

op-gives : (op : ℕ) (b : List ℕ) (q : Lists) (key : List ℕ) → OpGives op (length b) b q key (op_of (opcode_of op) b q key).answer.code
unfolding opcode_of
op-gives op b q key = (λ e. rw e (push-gives b q key), λ e. rw e (pull-gives b q key), λ e. rw e (public-gives b q key))

-- ---- the opcode, and its curve
abbrev pub OneToThree : ℕ → Type 0
OneToThree op = (op ≡ 1) ⊎ ((op ≡ 2) ⊎ (op ≡ 3))

tells-other : (op : ℕ) → Tells (is_other (opcode_of op)) (OneToThree op → ⊥)
unfolding is_other opcode_of
tells-other op = go (ℕ_discrete op 1) (ℕ_discrete op 2) (ℕ_discrete op 3)
  where
    none : (op ≡ 1 → ⊥) → (op ≡ 2 → ⊥) → (op ≡ 3 → ⊥) → OneToThree op → ⊥
    none a b d (inl e) = a e
    none a b d (inr (inl e)) = b e
    none a b d (inr (inr e)) = d e

    go : Dec (op ≡ 1) → Dec (op ≡ 2) → Dec (op ≡ 3) → Tells (is_other (opcode_of op)) (OneToThree op → ⊥)
    go (yes a) y z = rw a (record { yes-if = λ h. absurd (h (inl refl)); no-if = λ h. refl })
    go (no a) (yes b) z = rw b (record { yes-if = λ h. absurd (h (inr (inl refl))); no-if = λ h. refl })
    go (no a) (no b) (yes d) = rw d (record { yes-if = λ h. absurd (h (inr (inr refl))); no-if = λ h. refl })
    go (no a) (no b) (no d) =
        rw (ne_eqb op 1 a, ne_eqb op 2 b, ne_eqb op 3 d) (record { yes-if = λ h. refl; no-if = λ h. absurd (h (none a b d)) })

tells-curve : (op curve : ℕ) → Tells (bad_curve (opcode_of op) curve) ((op ≡ 3) × (curve ≡ 0 → ⊥))
unfolding bad_curve opcode_of
tells-curve op curve = go (ℕ_discrete op 1) (ℕ_discrete op 2) (ℕ_discrete op 3)
  where
    t : Tells (is_false (eqb curve 0)) (curve ≡ 0 → ⊥)
    t = tells-not _ _ (tells-eq curve 0)

    go : Dec (op ≡ 1) → Dec (op ≡ 2) → Dec (op ≡ 3) → Tells (bad_curve (opcode_of op) curve) ((op ≡ 3) × (curve ≡ 0 → ⊥))
    go (yes a) y z = rw a (record { yes-if = λ h. absurd (let e : 1 ≡ 3 = h.0 in omega arith); no-if = λ h. refl })
    go (no a) (yes b) z = rw b (record { yes-if = λ h. absurd (let e : 2 ≡ 3 = h.0 in omega arith); no-if = λ h. refl })
    go (no a) (no b) (yes d) = rw d (record { yes-if = λ h. t.yes-if h.1; no-if = λ h. t.no-if (λ n. h (refl, n)) })
    go (no a) (no b) (no d) =
        rw (ne_eqb op 1 a, ne_eqb op 2 b, ne_eqb op 3 d) (record { yes-if = λ h. absurd (d h.0); no-if = λ h. refl })

-- ---- the command: the shared checks after those of the page, then the opcode's own
behind : Params → List ℕ → Lists → List ℕ → ℕ → ℕ → ℕ → ℕ → Code
behind u page q key op pa size curve =
    fails (bad_curve (opcode_of op) curve) Inval (fails (ltb u.minor 4) Unk
    (op_of (opcode_of op) (part (pa - u.base) size page) q key).answer.code)

step-code : (k : Code) (s : SigningStep) (page : List ℕ) (q : Lists) → (queued k s page q).answer.code ≡ and_then k s.answer.code
unfolding queued and_then answer_of
step-code k s page q = if-ok-by (λ (t : SigningStep). t.answer.code ≡ and_then k s.answer.code) k s _ (λ e. rw e) (λ e. rw e)

signing-code : (r : Record) (page : List ℕ) (q : Lists) (key : List ℕ) (op pa size curve : ℕ) →
    (signing_of r page q key op pa size curve).answer.code ≡ and_then
    (page_code r (length page) (fails (is_other (opcode_of op)) Inval Ok) Invalid pa size)
    (behind (boot_params r) page q key op pa size curve)
unfolding signing_of shared_code op_at put_back behind place_of
signing-code r page q key op pa size curve =
    let own : Code = (op_of (opcode_of op) (part (pa - (boot_params r).base) size page) q key).answer.code in
    step-code _ _ page q
    ∙ rw (
      then-then,
      then-fails (bad_curve (opcode_of op) curve) Inval _ own refl,
      then-fails (ltb (boot_params r).minor 4) Unk Ok own refl,
      then-none,
    )

-- the opcode's own checks, if the shared checks of page and buffer pass: the buffer has its size
sized : (u : Params) (page : List ℕ) (q : Lists) (key : List ℕ) (op pa size : ℕ) → is_false (eqb (length page) 4096) ≡ false →
    outside u pa ≡ false → too_long u pa size ≡ false →
    OpGives op size (part (pa - u.base) size page) q key (op_of (opcode_of op) (part (pa - u.base) size page) q key).answer.code
unfolding outside too_long
sized u page q key op pa size w o l =
    let e = neither _ _ o in
    let n : length page ≡ 4096 = eqb-true _ _ (unless_not _ w) in
    let a : u.base + u.kept ≤ pa = ltb-false _ _ e.0 in
    let b : pa < u.base + 4096 = leb-false _ _ e.1 in
    let d : size ≤ u.base + 4096 - pa = ltb-false _ _ l in
    rw (buffer-length (pa - u.base) size page (omega arith)) at (op-gives op (part (pa - u.base) size page) q key)

pub signing-codes : (r : Record) (page : List ℕ) (q : Lists) (key : List ℕ) (op pa size curve : ℕ) →
    PageGives r (length page) (Gives (OneToThree op → ⊥) Inval) Inval pa size (λ (u : Params).
    Gives ((op ≡ 3) × (curve ≡ 0 → ⊥)) Inval
    (Gives (u.minor < 4) Unk
    (OpGives op size (part (pa - u.base) size page) q key)))
    (signing_of r page q key op pa size curve).answer.code
unfolding outside_code behind
signing-codes r page q key op pa size curve =
    rw (signing-code r page q key op pa size curve)
    (page-gives r (length page) (fails (is_other (opcode_of op)) Inval Ok) Invalid pa size (λ u. behind u page q key op pa size curve)
    (Gives (OneToThree op → ⊥) Inval) _
    (λ after next h. rw (then-fails (is_other (opcode_of op)) Inval Ok next refl, then-none)
    (gives _ _ Inval next after (tells-other op) (λ f. h)))
    (λ u e w o l.
    gives _ _ Inval _ _ (tells-curve op curve) (λ c.
    gives _ _ Unk _ _ (tells-lt u.minor 4) (λ m.
    sized u page q key op pa size w o l))))
