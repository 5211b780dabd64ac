-- The image that an accepted or refused call leaves reads back as the next state of the definitions. So a sequence of exported calls is a
-- sequence of steps of `runtime`. The laws of the queue need an image of 210 words, and a page or a signature of bytes: the types of the
-- exports guarantee both. Assumes nothing.
use Prim.Native.Nat.{ℕ}
use mathlib.Core.Path.{◌≡◌, refl, sym, ap}
use mathlib.Core.Bool.{Bool, true, false, cond}
use mathlib.Core.List.{List}
use lib.ListN.{length}
use Rattle.words.specs.Tests.{Yes}
use Rattle.words.specs.Word.{part, are_words}
use Rattle.boot.specs.declared.Record.{Record}
use Rattle.codes.specs.Codes.{is_ok, if_ok, answer_of, boot_params}
use Rattle.codes.specs.declared.Code.{Code}
use Rattle.codes.specs.declared.Code.TheVariants.{Ok}
use Rattle.banks.specs.Banks.{Granules}
use Rattle.buffer_check.specs.Range.{place_of}
use Rattle.token_rules.specs.Token.{TokenStep, token_of}
use Rattle.token_rules.specs.declared.Session.{Session}
use Rattle.token_rules.proofs.Tokens.{token-refused}
use Rattle.queue.specs.Queue.{Lists, SigningStep}
use Rattle.request_rules.specs.OnImage.{push_done}
use Rattle.response_rules.specs.Sign.{sign_code, sign_of}
use Rattle.response_rules.specs.OnImage.{sign_done, sign_on}
use Rattle.signing.specs.Signing.{signing_of}
use Rattle.signing.specs.OnImage.{image_done, signing_done, signing_on}
use Rattle.signing.specs.declared.Opcode.{Opcode}
use Rattle.signing.proofs.Signings.{signing-by}
use Rattle.runtime.specs.declared.Kind.{Kind}
use Rattle.runtime.specs.declared.Kind.TheVariants.{ForwardError, Delegate, Undelegate, RealmKey, PlatformToken, Features, TokenSigning}
use Rattle.runtime.specs.declared.Kind.TheVariants.{KeyUpdate, Unlisted}
use Rattle.runtime.specs.Step.{Call, Step, kind_of, after_move, after_key, after_token, after_signing, after_update, call_by, call_of, reply_code}
use Rattle.images.specs.Image.{record_of, is_set, session_of, session_words}
use Rattle.images.proofs.Inverse.{session-back}
use Rattle.queue_image.specs.Image.{lists_in, are_bytes}
use Rattle.queue_image.specs.OnImage.{image_step}
use Rattle.queue_image.proofs.Fits.{part_bytes}
use Rattle.queue_image.proofs.Steps.{ok-is}
use Rattle.queue_image.proofs.Becomes.{Becomes, as_it_was}
use Rattle.export_rules.specs.Exports.{session_after, token_left, token_in, signing_left, signing_in, sign_left, sign_in, session_left, queue_left}
use Rattle.export_rules.specs.Exports.{world_in, call_left, call_in}
use Rattle.export_sequences.proofs.Queues.{push-becomes, pull-becomes, sign-becomes}

-- ---- the platform token: a written session reads back, and an unchanged image is that of the session before
session-reads : (b : Bool) (s : Session) (image : List ℕ) → (b ≡ false → s ≡ session_of image) →
    session_of (cond b (session_words s) image) ≡ s
session-reads true s image same = session-back s
session-reads false s image same = sym (same refl)

token-chain : (r : Record) (image page token : List ℕ) (busy : Bool) (pa size c : ℕ) →
    session_of (token_left (token_of r page (session_of image) busy token pa size c) image).session ≡ (token_of r page
    (session_of image) busy token pa size c).session
unfolding token_left session_after
token-chain r image page token busy pa size c =
    let t : TokenStep = token_of r page (session_of image) busy token pa size c in
    session-reads (is_ok t.answer.code) t.session image
    (λ h. ap (λ (x : TokenStep). x.session) (token-refused r page (session_of image) busy token pa size c h))

pub session-chain : (state image page token : List ℕ) (busy pa size c : ℕ) →
    session_of (token_in state image page token busy pa size c).session ≡ (token_of (record_of state) page (session_of image)
    (is_set busy) token pa size c).session
unfolding token_in
session-chain state image page token busy pa size c = token-chain (record_of state) image page token (is_set busy) pa size c

-- ---- token signing and the signer's step, on an image of 210 words
-- a queue and its image after a call with this code
left_both : (k : Code) (P : List ℕ → Lists → Type 0) (new old : List ℕ) (q p : Lists) → (k ≡ Ok → P new q) → P old p →
    P (if_ok k new old) (if_ok k q p)
left_both k P new old q p h g = go (is_ok k) (λ e. h (ok-is k e))
  where
    go : (b : Bool) → (b ≡ true → P new q) → P (cond b new old) (cond b q p)
    go true f = f refl
    go false f = g

module _ (image : List ℕ) (l : length image ≡ 210) (w : Yes (are_words image)) where
  signing-becomes : (r : Record) (page key : List ℕ) (opcode pa size curve : ℕ) → Yes (are_bytes page) →
      Becomes image (signing_on r page image key opcode pa size curve).image
      (signing_of r page (lists_in image) key opcode pa size curve).queue
  unfolding signing_on signing_done image_step image_done push_done answer_of
  signing-becomes r page key opcode pa size curve a =
      signing-by (λ (o : Opcode) (s : SigningStep). Becomes image
      (if_ok s.answer.code (image_done o (part (place_of (boot_params r) pa) size page) image) image) s.queue)
      r page (lists_in image) key opcode pa size curve
      (record {
        refusal = λ o k e. rw e (as_it_was image l w);
        push = λ p e. push-becomes image l w _ (part_bytes _ size page a) e;
        pull = λ p e. pull-becomes image l w;
        public = λ p e. as_it_was image l w;
      })

  pub queue-chain : (state page key : List ℕ) (opcode pa size curve : ℕ) → Yes (are_bytes page) →
      lists_in (signing_in state image page key opcode pa size curve).queue ≡ (signing_of (record_of state) page
      (lists_in image) key opcode pa size curve).queue
  unfolding signing_in signing_left
  queue-chain state page key opcode pa size curve a = (signing-becomes (record_of state) page key opcode pa size curve a).lists

  pub signer-becomes : (signature : List ℕ) → Yes (are_bytes signature) →
      Becomes image (sign_in image signature).queue (sign_of (lists_in image) signature).queue
  unfolding sign_in sign_left sign_on sign_done sign_of answer_of
  signer-becomes signature a =
      left_both (sign_code (lists_in image) signature) (Becomes image) _ image _ (lists_in image) (λ e. sign-becomes image l w signature a e)
      (as_it_was image l w)

  pub sign-chain : (signature : List ℕ) → Yes (are_bytes signature) →
      lists_in (sign_in image signature).queue ≡ (sign_of (lists_in image) signature).queue
  sign-chain signature a = (signer-becomes signature a).lists

-- ---- any command: both images
module _ (g : Granules) (session queue page table words : List ℕ) (c : Call) where
  -- the step of `runtime` from the world of the images
  by : Kind → Step
  by k = call_by k g (world_in session queue page table words) c

  session-by : (k : Kind) → session_of (session_left k (reply_code (by k).reply) (by k).next.session session) ≡ (by k).next.session
  unfolding by session_left token_left call_by after_move after_key after_token after_signing after_update reply_code
  session-by ForwardError = refl
  session-by Delegate = refl
  session-by Undelegate = refl
  session-by RealmKey = refl
  session-by PlatformToken = token-chain c.state session page c.token c.busy c.x1 c.x2 c.x3
  session-by Features = refl
  session-by TokenSigning = refl
  session-by KeyUpdate = refl
  session-by Unlisted = refl

  queue-by : length queue ≡ 210 → Yes (are_words queue) → Yes (are_bytes page) → (k : Kind) →
      Becomes queue (queue_left k (reply_code (by k).reply) (signing_done c.state page queue c.x1 c.x2 c.x3) queue)
      (by k).next.queue
  unfolding by queue_left signing_on image_step call_by after_move after_key after_token after_signing after_update reply_code
  queue-by l w a ForwardError = as_it_was queue l w
  queue-by l w a Delegate = as_it_was queue l w
  queue-by l w a Undelegate = as_it_was queue l w
  queue-by l w a RealmKey = as_it_was queue l w
  queue-by l w a PlatformToken = as_it_was queue l w
  queue-by l w a Features = as_it_was queue l w
  queue-by l w a TokenSigning = signing-becomes queue l w c.state page c.public_key c.x1 c.x2 c.x3 c.x4 a
  queue-by l w a KeyUpdate = as_it_was queue l w
  queue-by l w a Unlisted = as_it_was queue l w

module _ (granules session queue page table words : List ℕ) (c : Call) (l : length queue ≡ 210) (w : Yes (are_words queue))
    (a : Yes (are_bytes page)) where
  pub call-becomes : Becomes queue (call_in granules session queue page table words c).queue
      (call_of granules (world_in session queue page table words) c).next.queue
  unfolding call_in call_left call_of by
  call-becomes = queue-by granules session queue page table words c l w a (kind_of c.id)

  -- what a call leaves is the next world
  pub call-chain : world_in (call_in granules session queue page table words c).session
      (call_in granules session queue page table words c).queue (call_in granules session queue page table words c).page
      (call_in granules session queue page table words c).table (call_in granules session queue page table words c).words
      ≡ (call_of granules (world_in session queue page table words) c).next
  unfolding call_in call_left call_of by
  call-chain =
      rw (
        session-by granules session queue page table words c (kind_of c.id),
        (queue-by granules session queue page table words c l w a (kind_of c.id)).lists,
      )
