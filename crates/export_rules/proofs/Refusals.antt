-- Demand 1 at the C edge. Assumes nothing.
use Prim.Native.Nat.{ℕ}
use mathlib.Core.Path.{◌≡◌, refl, sym, ap, ◌∙◌}
use mathlib.Core.Bool.{Bool, true, false, cond}
use mathlib.Core.List.{List, [], ◌∷◌}
use lib.ListN.{take, get_or}
use Rattle.codes.specs.Codes.{is_ok, is_false, fails, if_ok, x0_of, extended, answer_of}
use Rattle.codes.specs.declared.Answer.{Answer}
use Rattle.codes.specs.declared.Code.{Code}
use Rattle.codes.specs.declared.Code.TheVariants.{Ok, Unk, BadAddr, BadPas, Inval, Again}
use Rattle.codes.specs.declared.Work.TheVariants.{Nothing}
use Rattle.codes.proofs.Gates.{if-ok-by}
use Rattle.granule_rules.specs.Granules.{table_of, Moved, moved_by, move_of}
use Rattle.granule_rules.specs.Lists.{done_by, table_by}
use Rattle.granule_rules.specs.declared.Direction.{Direction}
use Rattle.realm_words.specs.Bits.{realm_words}
use Rattle.realm_words.specs.Answers as answers
use Rattle.realm_words.specs.Answers.{both_fit, realm_count_of, realm_next_of, realm_build_of}
use Rattle.std.specs.Prelude.{Option, Some, None, Result}
use Rattle.realm_words.specs.declared.Inval as realm
use Rattle.banks.specs.Banks.{Granules, granule_count, shown_count, takes, record_from, set_up_code, set_up_of}
use Rattle.granule_rules.proofs.Moving.{move-refused}
use Rattle.granule_rules.proofs.Done.{list-is}
use Rattle.boot.specs.declared.Record.{Record}
use Rattle.attest.specs.Key.{Keyed, keyed, realm_key_of}
use Rattle.attest.proofs.Keys.{key-refused}
use Rattle.token_rules.specs.Token.{TokenStep, settled, send_of, keeps, token_of}
use Rattle.token_rules.specs.declared.Session.{Session}
use Rattle.token_rules.proofs.Tokens.{token-refused}
use Rattle.features.specs.Features.{features_by, features_of, update_by, update_of}
use Rattle.features.specs.declared.UpdateResult.{UpdateResult}
use Rattle.features.proofs.Feature.{features-refused, update-refused}
use Rattle.queue.specs.Queue.{Lists, SigningStep}
use Rattle.response_rules.specs.Sign.{SignStep, sign_of}
use Rattle.response_rules.specs.OnImage.{sign_done, sign_on}
use Rattle.signing.specs.Signing.{signing_of}
use Rattle.signing.specs.OnImage.{signing_done, signing_on}
use Rattle.signing.specs.declared.Opcode.{Opcode}
use Rattle.signing.proofs.Signings.{signing-by, signing-refused}
use Rattle.runtime.specs.declared.Kind.{Kind}
use Rattle.runtime.specs.declared.Kind.TheVariants.{ForwardError, Delegate, Undelegate, RealmKey, PlatformToken, Features, TokenSigning}
use Rattle.runtime.specs.declared.Kind.TheVariants.{KeyUpdate, Unlisted}
use Rattle.runtime.specs.Step.{World, Call, call, Step, kind_of, after_move, after_key, after_token, after_signing, after_update, call_by, call_of}
use Rattle.runtime.specs.Step.{step_of, reply_code, refusal, uses_session, uses_queue}
use Rattle.runtime.specs.Run.{world_after, done_calls}
use Rattle.runtime.proofs.Refused.{refused}
use Rattle.images.specs.Image.{record_of, is_set, session_of, session_words, register_words, work_words, reply_registers, reply_words}
use Rattle.images.specs.Realm.{number_x0, number_words, hit_x0, hit_words, built_x0}
use Rattle.queue_image.specs.Image.{lists_in}
use Rattle.queue_image.specs.OnImage.{image_step}
use Rattle.export_rules.specs.Exports.{session_after, SetUpLeft, set_up_left, set_up_in, move_left, move_in, move_list_in, build_left, build_in}
use Rattle.export_rules.specs.Exports.{token_left, token_in, signing_left, signing_in, sign_left, sign_in, session_left, queue_left, CallLeft}
use Rattle.export_rules.specs.Exports.{call_left, world_in, call_in}
use Rattle.export_rules.specs.Refusals.{RefusedCall, x0_alone, ExportsRefuse}

-- ---- x0 is not 0: the code is not OK
-- an answer's x0 is that of its code
abbrev pub Tells : Answer → Type 0
Tells a = a.x0 ≡ x0_of a.code

code_of : (k : Code) → (x0_of k ≡ 0 → ⊥) → is_ok k ≡ false
unfolding x0_of extended
code_of Ok h = absurd (h refl)
code_of Unk h = refl
code_of BadAddr h = refl
code_of BadPas h = refl
code_of Inval h = refl
code_of Again h = refl

refuses : (a : Answer) → Tells a → RefusedCall (register_words a) → is_ok a.code ≡ false
unfolding register_words
refuses a t h = code_of a.code (λ e. h (t ∙ e))

settled-tells : (k : Code) (new : TokenStep) (page : List ℕ) (s : Session) → Tells new.answer → Tells (settled k new page s).answer
unfolding settled keeps answer_of
settled-tells k new page s h = if-ok-by (λ (t : TokenStep). Tells t.answer) k new (keeps k page s) (λ e. h) (λ e. refl)

send-tells : (at : ℕ) (token : List ℕ) (i size : ℕ) (page : List ℕ) → Tells (send_of at token i size page).answer
unfolding send_of answer_of
send-tells at token i size page = refl

pub token-tells : (r : Record) (page : List ℕ) (s : Session) (busy : Bool) (token : List ℕ) (pa size c : ℕ) →
    Tells (token_of r page s busy token pa size c).answer
unfolding token_of
token-tells r page s busy token pa size c = settled-tells _ _ page s (send-tells _ token _ size page)

pub signing-tells : (r : Record) (page : List ℕ) (q : Lists) (key : List ℕ) (op pa size curve : ℕ) →
    Tells (signing_of r page q key op pa size curve).answer
unfolding answer_of
signing-tells r page q key op pa size curve =
    signing-by (λ (o : Opcode) (s : SigningStep). Tells s.answer) r page q key op pa size curve
    (record { refusal = λ o k e. refl; push = λ p e. refl; pull = λ p e. refl; public = λ p e. refl })

-- ---- the exports
set-up : (granules banks : List ℕ) (n : ℕ) → ((set_up_in granules banks n).x0 ≡ 0 → ⊥) →
    set_up_in granules banks n ≡ record { x0 = x0_of Inval; granules = granules }
unfolding set_up_in set_up_left set_up_of set_up_code fails is_false x0_of extended
set-up granules banks n h = go (takes banks n) h
  where
    go : (b : Bool) → (x0_of (fails (is_false b) Inval Ok) ≡ 0 → ⊥) →
        ◌≡◌ {A = SetUpLeft} (record {
          x0 = x0_of (fails (is_false b) Inval Ok);
          granules =
              if_ok (fails (is_false b) Inval Ok) (record_from (shown_count banks) banks) granules;
        })
        (record { x0 = x0_of Inval; granules = granules })
    go true h = absurd (h refl)
    go false h = refl

delegation : (d : Direction) (state granules table words : List ℕ) (address : ℕ) →
    RefusedCall (move_in d state granules table words address).out →
    move_in d state granules table words address ≡ record
    { out = x0_alone (move_in d state granules table words address).out; table = table; words = words }
unfolding move_in move_left register_words move_of moved_by answer_of
delegation d state granules table words address h =
    let m : Moved = move_of (record_of state) granules d (table_of table words) address in
    ap move_left (move-refused (record_of state) granules d (table_of table words) address (refuses m.answer refl h))

realm-key : (state page key : List ℕ) (pa size curve : ℕ) →
    RefusedCall (register_words (realm_key_of (record_of state) page key pa size curve).answer) →
    (register_words (realm_key_of (record_of state) page key pa size curve).answer ≡ x0_alone
    (register_words (realm_key_of (record_of state) page key pa size curve).answer))
    × ((realm_key_of (record_of state) page key pa size curve).page ≡ page)
unfolding register_words realm_key_of keyed answer_of
realm-key state page key pa size curve h =
    let k : Keyed = realm_key_of (record_of state) page key pa size curve in
    let e : k ≡ record { answer = answer_of k.answer.code 0 0; page = page } = key-refused (record_of state) page key pa size curve
    (refuses k.answer refl h) in
    (ap (λ (x : Keyed). register_words x.answer) e, ap (λ (x : Keyed). x.page) e)

-- ---- a refusal leaves an image unchanged
left-old : {A : Type 0} (k : Code) (new old : A) → is_ok k ≡ false → if_ok k new old ≡ old
left-old k new old f = rw f

session-stays : (k : Code) (s : Session) (image : List ℕ) → is_ok k ≡ false → session_after k s image ≡ image
unfolding session_after
session-stays k s image f = left-old k (session_words s) image f

-- a refused step, with its image
token-kept : (t : TokenStep) (image page : List ℕ) (s : Session) → Tells t.answer → RefusedCall (register_words t.answer) →
    (is_ok t.answer.code ≡ false → t ≡ record { answer = answer_of t.answer.code 0 0; page = page; session = s }) →
    token_left t image ≡ record { out = x0_alone (register_words t.answer); page = page; session = image }
unfolding token_left register_words answer_of
token-kept t image page s told h kept =
    let f : is_ok t.answer.code ≡ false = refuses t.answer told h in
    ap (λ (x : TokenStep). token_left x image) (kept f) ∙ rw (← told, session-stays t.answer.code s image f)

platform-token : (state session page token : List ℕ) (busy pa size csize : ℕ) →
    RefusedCall (token_in state session page token busy pa size csize).out →
    token_in state session page token busy pa size csize ≡ record
    { out = x0_alone (token_in state session page token busy pa size csize).out; page = page; session = session }
unfolding token_in token_left
platform-token state session page token busy pa size csize h =
    token-kept _ session page (session_of session) (token-tells (record_of state) page (session_of session) (is_set busy) token pa size csize) h
    (token-refused (record_of state) page (session_of session) (is_set busy) token pa size csize)

signing-kept : (t : SigningStep) (new image page : List ℕ) (q : Lists) → Tells t.answer → RefusedCall (register_words t.answer) →
    (is_ok t.answer.code ≡ false → t ≡ record { answer = answer_of t.answer.code 0 0; page = page; queue = q }) →
    signing_left (image_step t new image) ≡ record { out = x0_alone (register_words t.answer); page = page; queue = image }
unfolding signing_left image_step register_words answer_of
signing-kept t new image page q told h kept =
    let f : is_ok t.answer.code ≡ false = refuses t.answer told h in
    ap (λ (x : SigningStep). signing_left (image_step x new image)) (kept f) ∙ rw (← told, left-old t.answer.code new image f)

token-signing : (state queue page key : List ℕ) (opcode pa size curve : ℕ) →
    RefusedCall (signing_in state queue page key opcode pa size curve).out →
    signing_in state queue page key opcode pa size curve ≡ record
    { out = x0_alone (signing_in state queue page key opcode pa size curve).out; page = page; queue = queue }
unfolding signing_in signing_on signing_left image_step
token-signing state queue page key opcode pa size curve h =
    signing-kept _ _ queue page (lists_in queue) (signing-tells (record_of state) page (lists_in queue) key opcode pa size curve) h
    (signing-refused (record_of state) page (lists_in queue) key opcode pa size curve)

signer : (queue signature : List ℕ) → RefusedCall (sign_in queue signature).out →
    sign_in queue signature ≡ record { out = x0_alone (sign_in queue signature).out; queue = queue }
unfolding sign_in sign_left sign_on sign_of register_words answer_of
signer queue signature h =
    let t : SignStep = sign_of (lists_in queue) signature in
    let f : is_ok t.answer.code ≡ false = refuses t.answer refl h in
    rw (left-old t.answer.code (sign_done queue signature) queue f)

feature-registers : (state : List ℕ) (index : ℕ) → RefusedCall (register_words (features_of (record_of state) index)) →
    register_words (features_of (record_of state) index) ≡ x0_alone (register_words (features_of (record_of state) index))
unfolding register_words features_of features_by answer_of
feature-registers state index h =
    ap register_words (features-refused (record_of state) index (refuses (features_of (record_of state) index) refl h))

key-update : (state : List ℕ) (width mecid : ℕ) → RefusedCall (register_words (update_of (record_of state) width mecid).answer) →
    (register_words (update_of (record_of state) width mecid).answer ≡ x0_alone
    (register_words (update_of (record_of state) width mecid).answer))
    × (work_words (update_of (record_of state) width mecid).work ≡ 0 ∷ 0 ∷ [])
unfolding register_words work_words update_of update_by answer_of
key-update state width mecid h =
    let u : UpdateResult = update_of (record_of state) width mecid in
    let e : u ≡ record { answer = answer_of u.answer.code 0 0; work = Nothing } = update-refused (record_of state) width mecid
    (refuses u.answer refl h) in
    (ap (λ (x : UpdateResult). register_words x.answer) e, ap (λ (x : UpdateResult). work_words x.work) e)

-- ---- the dispatcher
reply-tells : (k : Kind) (g : Granules) (w : World) (c : Call) → RefusedCall (reply_registers (call_by k g w c).reply) →
    is_ok (reply_code (call_by k g w c).reply) ≡ false
unfolding call_by after_move after_key after_token after_signing after_update reply_registers reply_code move_of moved_by realm_key_of keyed features_of
    features_by update_of update_by answer_of
reply-tells ForwardError g w c h = absurd (h refl)
reply-tells Delegate g w c h = refuses (move_of c.state g Direction.Delegate w.table c.x1).answer refl h
reply-tells Undelegate g w c h = refuses (move_of c.state g Direction.Undelegate w.table c.x1).answer refl h
reply-tells RealmKey g w c h = refuses (realm_key_of c.state w.page c.realm_key c.x1 c.x2 c.x3).answer refl h
reply-tells PlatformToken g w c h = refuses _ (token-tells c.state w.page w.session c.busy c.token c.x1 c.x2 c.x3) h
reply-tells Features g w c h = refuses (features_of c.state c.x1) refl h
reply-tells TokenSigning g w c h =
    refuses _ (signing-tells c.state w.page w.queue c.public_key c.x1 c.x2 c.x3 c.x4) h
reply-tells KeyUpdate g w c h = refuses (update_of c.state c.width c.x1).answer refl h
reply-tells Unlisted g w c h = refl

either-kept : (b : Bool) (new old : List ℕ) → new ≡ old → cond b new old ≡ old
either-kept true new old e = e
either-kept false new old e = refl

session-kept : (kind : Kind) (k : Code) (s : Session) (image : List ℕ) → is_ok k ≡ false → session_left kind k s image ≡ image
unfolding session_left
session-kept kind k s image f = either-kept (uses_session kind) _ image (session-stays k s image f)

queue-kept : (kind : Kind) (k : Code) (new image : List ℕ) → is_ok k ≡ false → queue_left kind k new image ≡ image
unfolding queue_left
queue-kept kind k new image f = either-kept (uses_queue kind) _ image (left-old k new image f)

-- what a refusal leaves: x0, and zeros in what is written
abbrev kept : List ℕ → List ℕ → List ℕ → List ℕ → List ℕ → ℕ → CallLeft
kept session queue page table words x0 =
    record { out = x0 ∷ 0 ∷ 0 ∷ []; work = 0 ∷ 0 ∷ []; page = page; table = table; words = words; session = session; queue = queue }

step_kept : (n : Kind) (st : Step) (w : World) (session new queue : List ℕ) → is_ok (reply_code st.reply) ≡ false → st ≡ refusal 0 st w →
    call_left n st session new queue ≡ kept session queue w.page w.table.bytes w.table.words (x0_of (reply_code st.reply))
unfolding call_left reply_registers reply_words register_words work_words answer_of reply_code
step_kept n st w session new queue f e =
    let k : Code = reply_code st.reply in
    ap (λ (x : Step). call_left n x session new queue) e ∙ rw (session-kept n k w.session session f, queue-kept n k new queue f)

dispatched : (granules session queue page table words : List ℕ) (c : Call) →
    RefusedCall (call_in granules session queue page table words c).out →
    call_in granules session queue page table words c ≡ kept session queue page table words
    (get_or (call_in granules session queue page table words c).out 0 0)
unfolding call_in call_left call_of step_of done_calls world_after
dispatched granules session queue page table words c h =
    let g : Granules = granules in
    let w : World = world_in session queue page table words in
    let st : Step = call_of g w c in
    let f : is_ok (reply_code st.reply) ≡ false = reply-tells (kind_of c.id) g w c h in
    let q = step_kept (kind_of c.id) st w session (signing_done c.state page queue c.x1 c.x2 c.x3) queue f
    (refused g w (call c) f) in
    q ∙ ap (kept session queue page table words) (sym (ap (λ (l : CallLeft). get_or l.out 0 0) q))

-- a list, for any code
lists : (d : Direction) (state granules table words addresses : List ℕ) →
    let l = move_list_in d state granules table words addresses in
    let f = move_of (record_of state) granules d in
    let done = done_by f (table_of table words) addresses in
    let after = table_by f (table_of table words) (take done addresses) in
    l ≡ record { out = get_or l.out 0 0 ∷ done ∷ 0 ∷ []; table = after.bytes; words = after.words }
unfolding move_list_in move_left register_words answer_of
lists d state granules table words addresses = rw (list-is (record_of state) granules d (table_of table words) addresses)

-- ---- the realm words
count-told : (a : Result ℕ realm.Inval) → (number_x0 a ≡ 0 → ⊥) → number_words a ≡ 0 ∷ []
unfolding number_x0 number_words x0_of extended
count-told (Result.Err e) h = refl
count-told (Result.Ok n) h = absurd (h refl)

next-told : (a : Result (Option ℕ) realm.Inval) → (hit_x0 a ≡ 0 → ⊥) → hit_words a ≡ 0 ∷ []
unfolding hit_x0 hit_words x0_of extended
next-told (Result.Err e) h = refl
next-told (Result.Ok None) h = refl
next-told (Result.Ok (Some i)) h = absurd (h refl)

build-told : (granules table words : List ℕ) → ((build_in granules table words).x0 ≡ 0 → ⊥) →
    build_in granules table words ≡ record { x0 = x0_of Inval; words = words }
unfolding build_in build_left realm_build_of built_x0 x0_of extended
build-told granules table words h = go (both_fit table words (granule_count granules)) h
  where
    go : (b : Bool) → ((build_left (cond b (record { done = Result.Ok tt; words = realm_words table })
        (record { done = Result.Err answers.inval; words = words }))).x0 ≡ 0 → ⊥) →
        build_left (cond b (record { done = Result.Ok tt; words = realm_words table }) (record { done = Result.Err answers.inval; words = words })) ≡
        record { x0 = x0_of Inval; words = words }
    go true h = absurd (h refl)
    go false h = refl

pub exports-refuse : ExportsRefuse
exports-refuse =
    record {
      set_up = set-up;
      delegation = delegation;
      lists = lists;
      realm_key = realm-key;
      token = platform-token;
      features = feature-registers;
      signing = token-signing;
      update = key-update;
      sign = signer;
      call = dispatched;
      realm_count = λ words n. count-told (realm_count_of words n);
      realm_next = λ words n index. next-told (realm_next_of words n index);
      realm_build = build-told;
    }
