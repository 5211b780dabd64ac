-- What an export leaves, from the promises of the functions that it calls. Assumes nothing.
use Prim.Native.Nat.{ℕ}
use mathlib.Core.Path.{◌≡◌, sym, ap, ◌∙◌}
use mathlib.Core.Bool.{Bool}
use mathlib.Core.List.{List, [], ◌∷◌}
use lib.ListN.{get_or}
use lib.IntN.{ℤ}
use Rattle.boot.specs.Boot.{boot_number, cold_code, cold_next}
use Rattle.std.specs.Prelude.{Result, ⊤}
use Rattle.boot.specs.declared.BootRefusal.{BootRefusal}
use Rattle.boot.specs.declared.Record.{Record}
use Rattle.codes.specs.Codes.{if_ok, answer_of}
use Rattle.codes.specs.declared.Answer.{Answer}
use Rattle.codes.specs.declared.Code.TheVariants.{Unk}
use Rattle.granule_rules.specs.Granules.{Moved, moved_to}
use Rattle.token_rules.specs.Token.{TokenStep, token_of}
use Rattle.token_rules.specs.declared.Session.{Session}
use Rattle.granule_rules.specs.declared.Direction.{Direction}
use Rattle.attest.specs.Key.{realm_key_of}
use Rattle.features.specs.Features.{features_of, update_of, forward_of}
use Rattle.response_rules.specs.OnImage.{SignImage}
use Rattle.signing.specs.OnImage.{signing_on}
use Rattle.runtime.specs.declared.Kind.{Kind}
use Rattle.runtime.specs.declared.Kind.TheVariants.{ForwardError, Delegate, Undelegate, RealmKey, PlatformToken, Features, TokenSigning}
use Rattle.runtime.specs.declared.Kind.TheVariants.{KeyUpdate, Unlisted}
use Rattle.runtime.specs.Step.{kind_of, call_of, call_by, after_move, after_key, after_token, after_signing, after_update, reply_code}
use Rattle.images.specs.Image.{record_of, record_words, session_words, register_words, work_words, reply_registers, reply_words}
use Rattle.queue_image.specs.OnImage.{ImageStep, image_step}
use Rattle.export_rules.specs.Exports.{session_after, MoveLeft, move_left, move_in, TokenLeft, token_left, token_in, SigningLeft}
use Rattle.export_rules.specs.Exports.{signing_left, signing_in, SignLeft, sign_left, session_left, queue_left, CallLeft, call_left}
use Rattle.export_rules.specs.Exports.{call_lent, call_in}

pub move-left : (a : Answer) (out table words : List ℕ) (m : Moved) → out ≡ register_words a → moved_to a table words ≡ m →
    ◌≡◌ {A = MoveLeft} (record { out = out; table = table; words = words }) (move_left m)
unfolding move_left moved_to
move-left a out table words m h e = rw h (ap move_left e)

pub token-left : (a : Answer) (s : Session) (image out page se : List ℕ) (t : TokenStep) → out ≡ register_words a → se ≡ if_ok a.code (session_words s) image →
    record { answer = a; page = page; session = s } ≡ t → ◌≡◌ {A = TokenLeft} (record { out = out; page = page; session = se })
    (token_left t image)
unfolding token_left session_after
token-left a s image out page se t h i e = rw (h, i) (ap (λ (x : TokenStep). token_left x image) e)

-- step and boot, with the record, session and flag that the conversions return
pub told-token : (r k : Record) (page : List ℕ) (s l : Session) (b u : Bool) (token : List ℕ) (pa size c : ℕ) → k ≡ r → l ≡ s → u ≡ b →
    (x : TokenStep) → x ≡ token_of k page l u token pa size c → x ≡ token_of r page s b token pa size c
told-token r k page s l b u token pa size c e f g x h = h ∙ rw (e, f, g)

pub told-cold : (r k : Record) (x0 x1 x2 x3 most kept : ℕ) (page : List ℕ) → k ≡ r → (c : Result ⊤ BootRefusal) (next : Record) →
    (boot_number c ≡ cold_code k x0 x1 x2 x3 most kept page) × (next ≡ cold_next k x0 x1 x2 x3 most kept page) → (n z : ℤ) → z ≡ n →
    n ≡ boot_number c → (image : List ℕ) → image ≡ record_words next →
    (z ≡ cold_code r x0 x1 x2 x3 most kept page) × (image ≡ record_words (cold_next r x0 x1 x2 x3 most kept page))
told-cold r k x0 x1 x2 x3 most kept page e c next p n z q h image i = rw (← e) (q ∙ h ∙ p.0, i ∙ ap record_words p.1)

pub signing-left : (a : Answer) (out page image : List ℕ) (s : ImageStep) → out ≡ register_words a →
    ◌≡◌ {A = ImageStep} (record { answer = a; page = page; image = image }) s →
    ◌≡◌ {A = SigningLeft} (record { out = out; page = page; queue = image }) (signing_left s)
unfolding signing_left
signing-left a out page image s h e = rw h (ap signing_left e)

pub sign-left : (a : Answer) (out image : List ℕ) (s : SignImage) → out ≡ register_words a →
    ◌≡◌ {A = SignImage} (record { answer = a; image = image }) s →
    ◌≡◌ {A = SignLeft} (record { out = out; queue = image }) (sign_left s)
unfolding sign_left
sign-left a out image s h e = rw h (ap sign_left e)

-- ---- any command, from the kind that `kind_of` returns and what the command's export leaves
module _ (granules session queue page table words state x : List ℕ) (busy : ℕ) (key token public : List ℕ) (width : ℕ) (kind : Kind)
    (e : kind ≡ kind_of (get_or x 0 0)) where
  abbrev Left : List ℕ → List ℕ → List ℕ → List ℕ → List ℕ → List ℕ → List ℕ → Type 0
  Left o k p b w s q =
      ◌≡◌ {A = CallLeft} (record { out = o; work = k; page = p; table = b; words = w; session = s; queue = q })
      (call_in granules session queue page table words (call_lent state x busy key token public width))

  pub left-forward : kind ≡ ForwardError → (n : ℕ) → n ≡ forward_of (record_of state) (get_or x 1 0) →
      Left (0 ∷ 0 ∷ 0 ∷ []) (2 ∷ n ∷ []) page table words session queue
  unfolding call_in call_lent call_left session_left queue_left call_of call_by reply_registers reply_words
  left-forward h n f = rw (sym e ∙ h, f)

  pub left-delegate : kind ≡ Delegate → (o b w : List ℕ) →
      ◌≡◌ {A = MoveLeft} (record { out = o; table = b; words = w }) (move_in Direction.Delegate state granules table words (get_or x 1 0)) →
      Left o (0 ∷ 0 ∷ []) page b w session queue
  unfolding move_in move_left call_in call_lent call_left session_left queue_left call_of call_by after_move reply_registers reply_words work_words
  left-delegate h o b w f =
      rw (sym e ∙ h) (ap (λ (l : MoveLeft). record {
        out = l.out;
        work = 0 ∷ 0 ∷ [];
        page = page;
        table = l.table;
        words = l.words;
        session = session;
        queue = queue;
      }) f)

  pub left-undelegate : kind ≡ Undelegate → (o b w : List ℕ) →
      ◌≡◌ {A = MoveLeft} (record { out = o; table = b; words = w })
      (move_in Direction.Undelegate state granules table words (get_or x 1 0)) → Left o (0 ∷ 0 ∷ []) page b w session queue
  unfolding move_in move_left call_in call_lent call_left session_left queue_left call_of call_by after_move reply_registers reply_words work_words
  left-undelegate h o b w f =
      rw (sym e ∙ h) (ap (λ (l : MoveLeft). record {
        out = l.out;
        work = 0 ∷ 0 ∷ [];
        page = page;
        table = l.table;
        words = l.words;
        session = session;
        queue = queue;
      }) f)

  pub left_key : kind ≡ RealmKey → (o p : List ℕ) → o ≡ register_words
      (realm_key_of (record_of state) page key (get_or x 1 0) (get_or x 2 0) (get_or x 3 0)).answer →
      p ≡ (realm_key_of (record_of state) page key (get_or x 1 0) (get_or x 2 0) (get_or x 3 0)).page →
      Left o (0 ∷ 0 ∷ []) p table words session queue
  unfolding call_in call_lent call_left session_left queue_left call_of call_by after_key reply_registers reply_words work_words
  left_key h o p f g = rw (sym e ∙ h, f, g)

  pub left-token : kind ≡ PlatformToken → (o p s : List ℕ) →
      ◌≡◌ {A = TokenLeft} (record { out = o; page = p; session = s })
      (token_in state session page token busy (get_or x 1 0) (get_or x 2 0) (get_or x 3 0)) → Left o (0 ∷ 0 ∷ []) p table words s queue
  unfolding token_in token_left call_in call_lent call_left session_left queue_left call_of call_by after_token reply_registers reply_words work_words
      reply_code
  left-token h o p s f =
      rw (sym e ∙ h) (ap (λ (l : TokenLeft). record {
        out = l.out;
        work = 0 ∷ 0 ∷ [];
        page = l.page;
        table = table;
        words = words;
        session = l.session;
        queue = queue;
      }) f)

  pub left-features : kind ≡ Features → (o : List ℕ) → o ≡ register_words (features_of (record_of state) (get_or x 1 0)) →
      Left o (0 ∷ 0 ∷ []) page table words session queue
  unfolding call_in call_lent call_left session_left queue_left call_of call_by reply_registers reply_words work_words
  left-features h o f = rw (sym e ∙ h, f)

  pub left-signing : kind ≡ TokenSigning → (o p q : List ℕ) →
      ◌≡◌ {A = SigningLeft} (record { out = o; page = p; queue = q })
      (signing_in state queue page public (get_or x 1 0) (get_or x 2 0) (get_or x 3 0) (get_or x 4 0)) →
      Left o (0 ∷ 0 ∷ []) p table words session q
  unfolding signing_in signing_left signing_on image_step call_in call_lent call_left session_left queue_left call_of call_by after_signing
      reply_registers reply_words work_words reply_code
  left-signing h o p q f =
      rw (sym e ∙ h) (ap (λ (l : SigningLeft). record {
        out = l.out;
        work = 0 ∷ 0 ∷ [];
        page = l.page;
        table = table;
        words = words;
        session = session;
        queue = l.queue;
      }) f)

  pub left-update : kind ≡ KeyUpdate → (o k : List ℕ) → o ≡ register_words (update_of (record_of state) width (get_or x 1 0)).answer →
      k ≡ work_words (update_of (record_of state) width (get_or x 1 0)).work → Left o k page table words session queue
  unfolding call_in call_lent call_left session_left queue_left call_of call_by after_update reply_registers reply_words
  left-update h o k f g = rw (sym e ∙ h, f, g)

  pub left-unlisted : kind ≡ Unlisted → (r : Answer) → r ≡ answer_of Unk 0 0 → (o : List ℕ) → o ≡ register_words r →
      Left o (0 ∷ 0 ∷ []) page table words session queue
  unfolding call_in call_lent call_left session_left queue_left call_of call_by reply_registers reply_words work_words
  left-unlisted h r f o g = rw (sym e ∙ h, g, f)
