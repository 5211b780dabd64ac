-- Any sequence of exported calls, each on the images, page, table and words that the call before it left, is a sequence of steps of
-- `runtime`. Assumes nothing.
use Prim.Native.Nat.{ℕ}
use mathlib.Core.Path.{◌≡◌, refl, ap, ◌∙◌}
use mathlib.Core.Bool.{Bool}
use mathlib.Core.List.{List, [], ◌∷◌, ◌++◌}
use lib.Dec.{eqb}
use lib.ListN.{length}
use borrow.Author.Tests.{eqb-true, eq-eqb}
use Rattle.words.specs.Tests.{Yes, both}
use Rattle.words.specs.Word.{le_bytes, are_words}
use Rattle.words.proofs.Tests.{both_l, both_r, both_of}
use Rattle.boot.specs.declared.Record.{Record}
use Rattle.codes.specs.Codes.{if_ok}
use Rattle.codes.specs.declared.Code.{Code}
use Rattle.codes.specs.declared.Code.TheVariants.{Ok}
use Rattle.codes.proofs.Gates.{if-ok-by}
use Rattle.banks.specs.Banks.{Granules}
use Rattle.attest.specs.Key.{key_code, keyed, realm_key_of}
use Rattle.token_rules.specs.Token.{TokenStep, token_code, send_of, keeps, settled, token_of}
use Rattle.token_rules.specs.declared.Session.{Session}
use Rattle.queue.specs.Queue.{Signed, Lists, SigningStep, oldest_response}
use Rattle.response_rules.specs.Pull.{response_bytes}
use Rattle.signing.specs.Signing.{signing_of}
use Rattle.signing.specs.declared.Opcode.{Opcode}
use Rattle.signing.proofs.Signings.{signing-by}
use Rattle.runtime.specs.declared.Kind.{Kind}
use Rattle.runtime.specs.declared.Kind.TheVariants.{ForwardError, Delegate, Undelegate, RealmKey, PlatformToken, Features, TokenSigning}
use Rattle.runtime.specs.declared.Kind.TheVariants.{KeyUpdate, Unlisted}
use Rattle.runtime.specs.Step.{World, Call, Command, call, sign, list, kind_of, after_move, after_key, after_token, after_signing, after_update}
use Rattle.runtime.specs.Step.{after_sign, call_by, call_of, step_of}
use Rattle.runtime.specs.Run.{world_after}
use Rattle.queue_image.specs.Image.{each, are_bytes, response_fits, eight_fit, queue_fits, Exact}
use Rattle.queue_image.proofs.Fits.{image-fits, each_append, low-bytes, part_bytes, splice-bytes}
use Rattle.queue_image.proofs.Becomes.{Becomes, as_it_was}
use Rattle.export_sequences.specs.Chain.{Lent, lent_world, command_left, lent_after, all_after, of_bytes}
use Rattle.export_rules.specs.Exports.{move_left, call_left, call_in}
use Rattle.export_sequences.proofs.Chain.{signer-becomes, sign-chain, call-becomes, call-chain}

-- ---- a page of bytes stays a page of bytes
-- a refusal changes nothing
if-ok-holds : {A : Type 0} (ok : A → Bool) (k : Code) (new old : A) → Yes (ok old) → (k ≡ Ok → Yes (ok new)) → Yes (ok (if_ok k new old))
if-ok-holds {A} ok k new old f h = if-ok-by (λ (x : A). Yes (ok x)) k new old h (λ e. f)

oldest-bytes : (l : List Signed) → Yes (each response_fits l) → Yes (are_bytes (oldest_response l).signature)
unfolding oldest_response each response_fits are_bytes
oldest-bytes [] h = refl
oldest-bytes (r ∷ l) h = both_r _ _ (both_r _ _ (both_l _ _ h))

response-bytes : (r : Signed) → Yes (are_bytes r.signature) → Yes (are_bytes (response_bytes r))
unfolding response_bytes are_bytes
response-bytes r a =
    let g : List ℕ = le_bytes 8 r.granule in
    let t : List ℕ = le_bytes 8 r.ticket in
    let n : List ℕ = le_bytes 2 (length r.signature) in
    each_append _ (g ++ t ++ n) r.signature (each_append _ (g ++ t) n
    (each_append _ g t (low-bytes 8 r.granule) (low-bytes 8 r.ticket)) (low-bytes 2 (length r.signature))) a

signing-bytes : (r : Record) (page : List ℕ) (q : Lists) (key : List ℕ) (op pa size curve : ℕ) → Yes (are_bytes page) → Yes (queue_fits q) →
    Yes (are_bytes key) → Yes (are_bytes (signing_of r page q key op pa size curve).page)
unfolding queue_fits eight_fit
signing-bytes r page q key op pa size curve a f k =
    signing-by (λ (o : Opcode) (s : SigningStep). Yes (are_bytes s.page)) r page q key op pa size curve
    (record {
      refusal = λ o c e. a;
      push = λ p e. a;
      pull =
          λ p e. splice-bytes _ _ page (response-bytes (oldest_response q.responses)
          (oldest-bytes q.responses (both_r _ _ (both_r _ _ f)))) a;
      public = λ p e. splice-bytes _ key page k a;
    })

token-bytes : (r : Record) (page : List ℕ) (s : Session) (busy : Bool) (token : List ℕ) (pa size c : ℕ) → Yes (are_bytes page) →
    Yes (are_bytes token) → Yes (are_bytes (token_of r page s busy token pa size c).page)
unfolding token_of settled keeps send_of
token-bytes r page s busy token pa size c a t =
    if-ok-holds (λ (x : TokenStep). are_bytes x.page) (token_code r page s busy token pa size c) _ _ a
    (λ h. splice-bytes _ _ page (part_bytes _ _ token t) a)

key-bytes : (r : Record) (page key : List ℕ) (pa size curve : ℕ) → Yes (are_bytes page) → Yes (are_bytes key) →
    Yes (are_bytes (realm_key_of r page key pa size curve).page)
unfolding realm_key_of keyed
key-bytes r page key pa size curve a k = if-ok-holds are_bytes (key_code r page pa size curve key) _ page a (λ h. splice-bytes _ key page k a)

call-bytes : (k : Kind) (g : Granules) (w : World) (c : Call) → Yes (are_bytes w.page) → Yes (queue_fits w.queue) →
    Yes (of_bytes (call c)) → Yes (are_bytes (call_by k g w c).next.page)
unfolding call_by after_move after_key after_token after_signing after_update of_bytes
call-bytes ForwardError g w c a f b = a
call-bytes Delegate g w c a f b = a
call-bytes Undelegate g w c a f b = a
call-bytes RealmKey g w c a f b = key-bytes c.state w.page c.realm_key c.x1 c.x2 c.x3 a (both_l _ _ b)
call-bytes PlatformToken g w c a f b =
    token-bytes c.state w.page w.session c.busy c.token c.x1 c.x2 c.x3 a (both_l _ _ (both_r _ _ b))
call-bytes Features g w c a f b = a
call-bytes TokenSigning g w c a f b =
    signing-bytes c.state w.page w.queue c.public_key c.x1 c.x2 c.x3 c.x4 a f (both_r _ _ (both_r _ _ b))
call-bytes KeyUpdate g w c a f b = a
call-bytes Unlisted g w c a f b = a

-- ---- one command, and any sequence
-- a page of bytes, and an image of 210 words
sound : Lent → Bool
sound m = both (are_bytes m.page) (both (eqb (length m.queue) 210) (are_words m.queue))

module _ (granules : List ℕ) where
  module _ (m : Lent) (h : Yes (sound m)) where
    page-bytes : Yes (are_bytes m.page)
    unfolding sound
    page-bytes = both_l _ _ h

    queue-whole : length m.queue ≡ 210
    unfolding sound
    queue-whole = eqb-true _ _ (both_l _ _ (both_r _ _ h))

    queue-words : Yes (are_words m.queue)
    unfolding sound
    queue-words = both_r _ _ (both_r _ _ h)

    step-becomes : (c : Command) → Yes (of_bytes c) → Becomes m.queue (lent_after granules m c).queue
        (step_of granules (lent_world m) c).next.queue
    unfolding command_left step_of after_move after_sign of_bytes
    step-becomes (call c) b =
        call-becomes granules m.session m.queue m.page m.table m.words c queue-whole queue-words page-bytes
    step-becomes (sign s) b = signer-becomes m.queue queue-whole queue-words s b
    step-becomes (list r d l) b = as_it_was m.queue queue-whole queue-words

    step-bytes : (c : Command) → Yes (of_bytes c) → Yes (are_bytes (lent_after granules m c).page)
    unfolding command_left call_in call_left call_of
    step-bytes (call c) b =
        call-bytes (kind_of c.id) granules (lent_world m) c page-bytes (image-fits m.queue queue-whole queue-words) b
    step-bytes (sign s) b = page-bytes
    step-bytes (list r d l) b = page-bytes

    step-sound : (c : Command) → Yes (of_bytes c) → Yes (sound (lent_after granules m c))
    unfolding sound
    step-sound c b =
        let n = step-becomes c b in
        both_of _ _ (step-bytes c b) (both_of _ _ (eq-eqb (length (lent_after granules m c).queue) 210 n.whole) n.words)

    step-chain : (c : Command) → Yes (of_bytes c) → lent_world (lent_after granules m c) ≡ (step_of granules (lent_world m) c).next
    unfolding command_left move_left step_of after_move after_sign of_bytes
    step-chain (call c) b = call-chain granules m.session m.queue m.page m.table m.words c queue-whole queue-words page-bytes
    step-chain (sign s) b = rw (sign-chain m.queue queue-whole queue-words s b)
    step-chain (list r d l) b = refl

  run_sound : (m : Lent) (cs : List Command) → Yes (sound m) → Yes (each of_bytes cs) →
      lent_world (all_after granules m cs) ≡ world_after granules (lent_world m) cs
  unfolding all_after world_after each
  run_sound m [] h b = refl
  run_sound m (c ∷ cs) h b =
      run_sound (lent_after granules m c) cs (step-sound m h c (both_l _ _ b)) (both_r _ _ b)
      ∙ ap (λ (w : World). world_after granules w cs) (step-chain m h c (both_l _ _ b))

  exact-sound : (m : Lent) (cs : List Command) → Yes (sound m) → Yes (each of_bytes cs) → Exact m.queue →
      Exact (all_after granules m cs).queue
  unfolding all_after each
  exact-sound m [] h b e = e
  exact-sound m (c ∷ cs) h b e =
      exact-sound (lent_after granules m c) cs (step-sound m h c (both_l _ _ b)) (both_r _ _ b) ((step-becomes m h c (both_l _ _ b)).exact e)

  -- for a queue's image of 210 words, a page of bytes, and bytes lent to each call
  module _ (m : Lent) (cs : List Command) (l : length m.queue ≡ 210) (w : Yes (are_words m.queue)) (a : Yes (are_bytes m.page))
      (b : Yes (each of_bytes cs)) where
    lent-sound : Yes (sound m)
    unfolding sound
    lent-sound = both_of _ _ a (both_of _ _ (eq-eqb (length m.queue) 210 l) w)

    pub run-chain : lent_world (all_after granules m cs) ≡ world_after granules (lent_world m) cs
    run-chain = run_sound m cs lent-sound b

    -- the queue's image holds exactly what waits
    pub run-exact : Exact m.queue → Exact (all_after granules m cs).queue
    run-exact e = exact-sound m cs lent-sound b e
