-- Only a push reads bytes of the page. Assumes nothing.
use Prim.Native.Nat.{ℕ}
use mathlib.Core.Path.{◌≡◌, refl, ap}
use mathlib.Core.List.{List}
use lib.ListN.{length}
use Rattle.codes.specs.declared.Code.{Code}
use Rattle.granule_rules.specs.Granules.{GranuleTable}
use Rattle.attest.proofs.Unread.{key-unread}
use Rattle.token_rules.proofs.Unread.{token-unread}
use Rattle.signing.proofs.Unread.{signing-image-unread, signing-done-unread}
use Rattle.runtime.specs.declared.Kind.{Kind}
use Rattle.runtime.specs.declared.Kind.TheVariants.{ForwardError, Delegate, Undelegate, RealmKey, PlatformToken, Features, TokenSigning}
use Rattle.runtime.specs.declared.Kind.TheVariants.{KeyUpdate, Unlisted}
use Rattle.runtime.specs.Step.{Call, Step, kind_of, reply_code}
use Rattle.runtime.proofs.Unread.{SameStep, signing-id, call-unread}
use Rattle.images.specs.Image.{record_of, is_set, session_of, register_words, reply_registers, reply_words}
use Rattle.export_rules.specs.Exports.{token_left, token_in, signing_left, signing_in, queue_left, call_left, world_in, call_in}
use Rattle.export_rules.specs.Unread.{SameTokenLeft, SameSigningLeft, SameCallLeft, ExportsUnread}

-- only token signing uses the next words of the queue's image
queue-same : (k : Kind) (j : Code) (a b image : List ℕ) → (k ≡ TokenSigning → a ≡ b) → queue_left k j a image ≡ queue_left k j b image
unfolding queue_left
queue-same ForwardError j a b image h = refl
queue-same Delegate j a b image h = refl
queue-same Undelegate j a b image h = refl
queue-same RealmKey j a b image h = refl
queue-same PlatformToken j a b image h = refl
queue-same Features j a b image h = refl
queue-same TokenSigning j a b image h = rw (h refl)
queue-same KeyUpdate j a b image h = refl
queue-same Unlisted j a b image h = refl

left-same : (k : Kind) (x y : Step) (session a b queue : List ℕ) → SameStep x y → (k ≡ TokenSigning → a ≡ b) →
    SameCallLeft (call_left k x session a queue) (call_left k y session b queue)
unfolding call_left
left-same k x y session a b queue s h =
    record {
      out = ap reply_registers s.reply;
      work = ap reply_words s.reply;
      table = ap (λ (t : GranuleTable). t.bytes) s.table;
      words = ap (λ (t : GranuleTable). t.words) s.table;
      session = rw (s.reply, s.session);
      queue = rw s.reply (queue-same k (reply_code y.reply) a b queue h);
    }

module _ (p q : List ℕ) (e : length p ≡ length q) where
  token-same : (state session token : List ℕ) (busy pa size csize : ℕ) →
      SameTokenLeft (token_in state session p token busy pa size csize) (token_in state session q token busy pa size csize)
  unfolding token_in token_left
  token-same state session token busy pa size csize =
      let t = token-unread (record_of state) p q (session_of session) (is_set busy) token pa size csize e in
      rw (t.0, t.1) (refl, refl)

  signing-same : (state queue key : List ℕ) (opcode pa size curve : ℕ) → (opcode ≡ 1 → ⊥) →
      SameSigningLeft (signing_in state queue p key opcode pa size curve) (signing_in state queue q key opcode pa size curve)
  unfolding signing_in signing_left
  signing-same state queue key opcode pa size curve n =
      let s = signing-image-unread (record_of state) p q queue opcode pa size n key curve e in
      (ap register_words s.0, s.1)

  call_same : (granules session queue table words : List ℕ) (c : Call) → (c.id ≡ 0xC40001B5 → c.x1 ≡ 1 → ⊥) →
      SameCallLeft (call_in granules session queue p table words c) (call_in granules session queue q table words c)
  unfolding call_in
  call_same granules session queue table words c n =
      left-same (kind_of c.id) _ _ session _ _ queue
      (call-unread granules (world_in session queue p table words) c p q e n)
      (λ k. signing-done-unread c.state p q queue c.x1 c.x2 c.x3 (n (signing-id c.id k)))

  pub exports-unread : ExportsUnread p q
  exports-unread =
      record {
        realm_key = λ state key pa size curve. ap register_words (key-unread (record_of state) p q key pa size curve e);
        token = token-same;
        signing = signing-same;
        call = call_same;
      }
