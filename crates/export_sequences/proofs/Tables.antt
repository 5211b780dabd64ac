-- The granule table over any sequence of exports, for any other lent images; request E8 for C callers. Assumes nothing.
use Prim.Native.Nat.{ℕ}
use mathlib.Core.Path.{◌≡◌, refl, sym, ap, ap₂, ◌∙◌, subst}
use mathlib.Core.Bool.{true}
use mathlib.Core.List.{List, [], ◌∷◌, map}
use lib.Dec.{eqb}
use borrow.Author.Tests.{eq-eqb}
use Rattle.boot.specs.declared.Record.{Record}
use Rattle.codes.specs.Codes.{is_ok, x0_of, extended, answer_of}
use Rattle.codes.specs.declared.Answer.{Answer}
use Rattle.codes.specs.declared.Code.{Code}
use Rattle.codes.specs.declared.Code.TheVariants.{Ok, Unk, BadAddr, BadPas, Inval, Again}
use Rattle.granule_rules.specs.Granules.{table_of}
use Rattle.granule_rules.specs.Changes.{RealmAt}
use Rattle.granule_rules.proofs.Done.{ok-code}
use Rattle.attest.specs.Key.{keyed, realm_key_of}
use Rattle.attest.proofs.Acts.{key-only}
use Rattle.token_rules.specs.Token.{token_of}
use Rattle.token_rules.specs.Calls.{token_step_of, token_accepted}
use Rattle.token_rules.specs.declared.Session.{Session}
use Rattle.token_rules.proofs.Acts.{token-only}
use Rattle.runtime.specs.Step.{World, Command, call, sign, list, after_move, after_sign, step_of}
use Rattle.runtime.specs.Run.{next_of, world_after}
use Rattle.runtime.specs.Changes.{under}
use Rattle.runtime.proofs.Changes.{same-table}
use Rattle.runtime.proofs.Shared.{shared-stays, signing-buffer}
use Rattle.queue.specs.Queue.{Lists}
use Rattle.signing.specs.Signing.{signing_of}
use Rattle.signing.specs.OnImage.{signing_on}
use Rattle.images.specs.Image.{record_of, is_set, session_of, register_words}
use Rattle.queue_image.specs.Image.{lists_in}
use Rattle.queue_image.specs.OnImage.{image_step}
use Rattle.export_rules.specs.Exports.{move_left, CallLeft, call_left, call_lent, call_in, token_in, token_left, signing_in, signing_left}
use Rattle.export_rules.proofs.Refusals.{Tells, token-tells, signing-tells}
use Rattle.export_sequences.specs.Chain.{Lent, lent_world, lent_on, command_left}
use Rattle.export_sequences.specs.Exported.{Exported, pbeam-delegate, pbeam-undelegate, pbeam-delegate-list, pbeam-undelegate-list}
use Rattle.export_sequences.specs.Exported.{pbeam-realm-key, pbeam-platform-token, pbeam-features, pbeam-token-signing}
use Rattle.export_sequences.specs.Exported.{pbeam-key-update, pbeam-forward, pbeam-call, pbeam-sign, export_left, command_of}
use Rattle.export_sequences.specs.Exported.{all_exported, export_under, RealmIn, base_in, ExportsIntoRealm}
use Rattle.export_sequences.proofs.Singles.{single}

-- ---- only the table
module _ (granules : List ℕ) where
  command-table : (m : Lent) (c : Command) → table_of (command_left granules m c).table (command_left granules m c).words ≡ (next_of granules
      (lent_world m) c).table
  unfolding command_left call_in call_left move_left step_of after_move after_sign
  command-table m (call c) = refl
  command-table m (sign s) = refl
  command-table m (list r d l) = refl

  pub export-table : (m : Lent) (e : Exported) → (next_of granules (lent_world m) (command_of e)).table ≡ table_of
      (export_left granules m e).table (export_left granules m e).words
  export-table m e = sym (command-table m (command_of e)) ∙ ap (λ (l : CallLeft). table_of l.table l.words) (sym (single granules m e))

  -- any sequence of exports leaves the same table and words as the sequence of their commands, from any world with that table
  pub exports-table : (w : World) (m : Lent) (es : List Exported) → w.table ≡ (lent_world m).table →
      (world_after granules w (map command_of es)).table ≡ table_of (all_exported granules m es).table (all_exported granules m es).words
  unfolding world_after all_exported
  exports-table w m [] h = h
  exports-table w m (e ∷ es) h =
      exports-table (next_of granules w (command_of e)) (lent_on (export_left granules m e)) es
      (same-table granules w (lent_world m) h (command_of e) ∙ export-table m e)

-- ---- request E8
command-under : (image : List ℕ) (e : Exported) → command_of (export_under image e) ≡ under (record_of image) (command_of e)
unfolding command_of export_under under call_lent
command-under image (pbeam-delegate state address) = refl
command-under image (pbeam-undelegate state address) = refl
command-under image (pbeam-delegate-list state addresses) = refl
command-under image (pbeam-undelegate-list state addresses) = refl
command-under image (pbeam-realm-key state key pa size curve) = refl
command-under image (pbeam-platform-token state token busy pa size csize) = refl
command-under image (pbeam-features state index) = refl
command-under image (pbeam-token-signing state key opcode pa size curve) = refl
command-under image (pbeam-key-update state width mecid) = refl
command-under image (pbeam-forward state x1) = refl
command-under image (pbeam-call state x busy key token public width) = refl
command-under image (pbeam-sign signature) = refl

commands-under : (image : List ℕ) (es : List Exported) →
    map (under (record_of image)) (map command_of es) ≡ map command_of (map (export_under image) es)
commands-under image [] = refl
commands-under image (e ∷ es) = ap₂ (λ c cs. c ∷ cs) (sym (command-under image e)) (commands-under image es)

-- x0 is 0: the code is OK
pub zero_ok : (k : Code) → is_ok k ≡ eqb (x0_of k) 0
unfolding x0_of extended
zero_ok Ok = refl
zero_ok Unk = refl
zero_ok BadAddr = refl
zero_ok BadPas = refl
zero_ok Inval = refl
zero_ok Again = refl

pub told-ok : (a : Answer) → Tells a → a.x0 ≡ 0 → is_ok a.code ≡ true
told-ok a t h = zero_ok a.code ∙ eq-eqb (x0_of a.code) 0 (sym t ∙ h)

module _ (granules image : List ℕ) (m : Lent) (es : List Exported) (r : RealmIn granules (base_in image) m) where
  abbrev after : Lent
  after = all_exported granules m (map (export_under image) es)

  -- "If it was Realm at boot it is Realm after any later calls on that table with the same boot and granule records. E1's lists obey this
  -- too.": any sequence of exports, with any images of session and queue
  pub exports-shared-stays : RealmIn granules (base_in image) after
  exports-shared-stays =
      subst (RealmAt granules (base_in image))
      (ap (λ (cs : List Command). (world_after granules (lent_world m) cs).table) (commands-under image es) ∙
      exports-table granules (lent_world m) m (map (export_under image) es) refl)
      (shared-stays (record_of image) granules (lent_world m) (map command_of es) r)

  -- when a realm key, a hunk or a response is written afterwards, the page's granule is Realm
  pub exports-into-realm : ExportsIntoRealm granules image after
  unfolding export_left token_in token_left signing_in signing_left signing_on image_step register_words token_accepted token_step_of realm_key_of keyed
      answer_of
  exports-into-realm =
      let p : List ℕ = after.page in
      let s : Session = session_of after.session in
      let q : Lists = lists_in after.queue in
      let r : Record = record_of image in
      record {
        key = λ key pa size curve h.
            record {
              buffer = (key-only r p key pa size curve (ok-code _ (told-ok (realm_key_of r p key pa size curve).answer refl h))).1;
              realm = exports-shared-stays;
            };
        hunk = λ token busy pa size csize h.
            record {
              buffer = (token-only s (record { state = r; page = p; busy = is_set busy; token = token; pa = pa; size = size; csize = csize })
                  (told-ok (token_of r p s (is_set busy) token pa size csize).answer
                  (token-tells r p s (is_set busy) token pa size csize) h)).passed.buffer;
              realm = exports-shared-stays;
            };
        response = λ key opcode pa size curve h.
            record {
              buffer =
                  signing-buffer r p q key opcode pa size curve (told-ok (signing_of r p q key opcode pa size curve).answer
                  (signing-tells r p q key opcode pa size curve) h);
              realm = exports-shared-stays;
            };
      }
