-- pbeam_call leaves what the export of the command with that id leaves, for any other arguments. So any sequence of exports is a sequence of
-- steps of `runtime`. Assumes nothing.
use Prim.Native.Nat.{ℕ}
use mathlib.Core.Path.{◌≡◌, refl, sym, ap, ◌∙◌, subst}
use mathlib.Core.List.{List, [], ◌∷◌, map}
use lib.ListN.{length, get_or}
use Rattle.words.specs.Tests.{Yes}
use Rattle.words.specs.Word.{are_words}
use Rattle.runtime.specs.declared.Kind.{Kind}
use Rattle.runtime.specs.declared.Kind.TheVariants.{ForwardError, Delegate, Undelegate, RealmKey, PlatformToken, Features, TokenSigning}
use Rattle.runtime.specs.declared.Kind.TheVariants.{KeyUpdate, Unlisted}
use Rattle.runtime.specs.Step.{kind_of, after_move, after_key, after_token, after_signing, after_update, call_by, call_of, reply_code}
use Rattle.runtime.specs.Run.{world_after}
use Rattle.images.specs.Image.{work_words, reply_registers, reply_words}
use Rattle.signing.specs.OnImage.{signing_on}
use Rattle.queue_image.specs.Image.{each, are_bytes, Exact}
use Rattle.queue_image.specs.OnImage.{image_step}
use Rattle.export_rules.specs.Exports.{move_left, move_in, move_list_in, token_left, token_in, signing_left, signing_in, session_left, queue_left}
use Rattle.export_rules.specs.Exports.{CallLeft, call_left, call_lent, call_in}
use Rattle.export_sequences.specs.Chain.{Lent, lent_world, lent_on, command_left, all_after, of_bytes}
use Rattle.export_sequences.specs.Exported.{Exported, pbeam-delegate, pbeam-undelegate, pbeam-delegate-list, pbeam-undelegate-list}
use Rattle.export_sequences.specs.Exported.{pbeam-realm-key, pbeam-platform-token, pbeam-features, pbeam-token-signing}
use Rattle.export_sequences.specs.Exported.{pbeam-key-update, pbeam-forward, pbeam-call, pbeam-sign, export_left, command_of, export_for}
use Rattle.export_sequences.specs.Exported.{all_exported}
use Rattle.export_sequences.proofs.Runs.{run-chain, run-exact}

module _ (granules : List ℕ) (m : Lent) where
  -- a call by the kind of its id
  dispatched-by : (k : Kind) (state x : List ℕ) (busy : ℕ) (key token public : List ℕ) (width : ℕ) → kind_of (get_or x 0 0) ≡ k →
      call_in granules m.session m.queue m.page m.table m.words
      (call_lent state x busy key token public width) ≡ export_left granules m (export_for k state x busy key token public width)
  unfolding export_for export_left call_in call_lent call_left call_of call_by after_move after_key after_token after_signing after_update session_left
      queue_left reply_registers reply_words work_words reply_code move_in move_left token_in token_left signing_in signing_left signing_on image_step
  dispatched-by ForwardError state x busy key token public width e = rw e
  dispatched-by Delegate state x busy key token public width e = rw e
  dispatched-by Undelegate state x busy key token public width e = rw e
  dispatched-by RealmKey state x busy key token public width e = rw e
  dispatched-by PlatformToken state x busy key token public width e = rw e
  dispatched-by Features state x busy key token public width e = rw e
  dispatched-by TokenSigning state x busy key token public width e = rw e
  dispatched-by KeyUpdate state x busy key token public width e = rw e
  dispatched-by Unlisted state x busy key token public width e = refl

  -- pbeam_call equals the export of its id, for any arguments that this export does not use
  pub dispatcher-exports : (state x : List ℕ) (busy : ℕ) (key token public : List ℕ) (width : ℕ) →
      export_left granules m (pbeam-call state x busy key token public width) ≡ export_left granules m
      (export_for (kind_of (get_or x 0 0)) state x busy key token public width)
  unfolding export_left
  dispatcher-exports state x busy key token public width = dispatched-by (kind_of (get_or x 0 0)) state x busy key token public width refl

  -- each export equals the command with its id
  pub single : (e : Exported) → export_left granules m e ≡ command_left granules m (command_of e)
  unfolding export_left command_left command_of export_for kind_of move_list_in
  single (pbeam-delegate state address) = sym (dispatched-by Delegate state (0xC40001B0 ∷ address ∷ []) 0 [] [] [] 0 refl)
  single (pbeam-undelegate state address) = sym (dispatched-by Undelegate state (0xC40001B1 ∷ address ∷ []) 0 [] [] [] 0 refl)
  single (pbeam-delegate-list state addresses) = refl
  single (pbeam-undelegate-list state addresses) = refl
  single (pbeam-realm-key state key pa size curve) =
      sym (dispatched-by RealmKey state (0xC40001B2 ∷ pa ∷ size ∷ curve ∷ []) 0 key [] [] 0 refl)
  single (pbeam-platform-token state token busy pa size csize) =
      sym (dispatched-by PlatformToken state (0xC40001B3 ∷ pa ∷ size ∷ csize ∷ []) busy [] token [] 0 refl)
  single (pbeam-features state index) = sym (dispatched-by Features state (0xC40001B4 ∷ index ∷ []) 0 [] [] [] 0 refl)
  single (pbeam-token-signing state key opcode pa size curve) =
      sym (dispatched-by TokenSigning state (0xC40001B5 ∷ opcode ∷ pa ∷ size ∷ curve ∷ []) 0 [] [] key 0 refl)
  single (pbeam-key-update state width mecid) = sym (dispatched-by KeyUpdate state (0xC40001B6 ∷ mecid ∷ []) 0 [] [] [] width refl)
  single (pbeam-forward state x1) = sym (dispatched-by ForwardError state (0xC400018F ∷ x1 ∷ []) 0 [] [] [] 0 refl)
  single (pbeam-call state x busy key token public width) = refl
  single (pbeam-sign signature) = refl

-- any sequence of exports leaves what the sequence of their commands leaves
exports-commands : (granules : List ℕ) (m : Lent) (es : List Exported) → all_exported granules m es ≡ all_after granules m (map command_of es)
unfolding all_exported all_after
exports-commands granules m [] = refl
exports-commands granules m (e ∷ es) =
    exports-commands granules (lent_on (export_left granules m e)) es ∙
    ap (λ (l : CallLeft). all_after granules (lent_on l) (map command_of es)) (single granules m e)

-- for a queue's image of 210 words, a page of bytes, and bytes lent to each call
module _ (granules : List ℕ) (m : Lent) (es : List Exported) (l : length m.queue ≡ 210) (w : Yes (are_words m.queue))
    (a : Yes (are_bytes m.page)) (b : Yes (each of_bytes (map command_of es))) where
  pub exports-chain : lent_world (all_exported granules m es) ≡ world_after granules (lent_world m) (map command_of es)
  exports-chain = ap lent_world (exports-commands granules m es) ∙ run-chain granules m (map command_of es) l w a b

  pub exports-exact : Exact m.queue → Exact (all_exported granules m es).queue
  exports-exact e =
      subst (λ (x : Lent). Exact x.queue) (sym (exports-commands granules m es)) (run-exact granules m (map command_of es) l w a b e)
