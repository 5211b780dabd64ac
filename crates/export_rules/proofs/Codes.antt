-- x0 of each export is the number of the command's code. Assumes nothing.
use Prim.Native.Nat.{ℕ}
use mathlib.Core.Path.{◌≡◌, refl}
use mathlib.Core.List.{List}
use Rattle.codes.specs.Codes.{x0_of, extended, answer_of}
use Rattle.banks.specs.Banks.{Granules}
use Rattle.granule_rules.specs.Granules.{table_of, moved_by, move_of}
use Rattle.granule_rules.specs.Lists.{move_list_of}
use Rattle.granule_rules.specs.declared.Direction.{Direction}
use Rattle.granule_rules.proofs.Done.{list-is}
use Rattle.attest.specs.Key.{keyed, realm_key_of}
use Rattle.features.specs.Features.{features_by, features_of, update_by, update_of}
use Rattle.response_rules.specs.Sign.{sign_of}
use Rattle.response_rules.specs.OnImage.{sign_on}
use Rattle.signing.specs.OnImage.{signing_on}
use Rattle.runtime.specs.declared.Kind.{Kind}
use Rattle.runtime.specs.declared.Kind.TheVariants.{ForwardError, Delegate, Undelegate, RealmKey, PlatformToken, Features, TokenSigning}
use Rattle.runtime.specs.declared.Kind.TheVariants.{KeyUpdate, Unlisted}
use Rattle.runtime.specs.Step.{World, Call, kind_of, after_move, after_key, after_token, after_signing, after_update, call_by, call_of, reply_code}
use Rattle.images.specs.Image.{record_of, is_set, session_of, register_words, reply_registers}
use Rattle.queue_image.specs.Image.{lists_in}
use Rattle.queue_image.specs.OnImage.{image_step}
use Rattle.export_rules.specs.Exports.{set_up_left, set_up_in, move_left, move_in, move_list_in, token_left, token_in, signing_left, signing_in}
use Rattle.export_rules.specs.Exports.{sign_left, sign_in, world_in, call_left, call_in}
use Rattle.export_rules.specs.Codes.{x0_in, ExportsTell}
use Rattle.export_rules.proofs.Refusals.{token-tells, signing-tells}

list-x0 : (d : Direction) (state granules table words addresses : List ℕ) →
    x0_in (move_list_in d state granules table words addresses).out ≡ x0_of
    (move_list_of (record_of state) granules d (table_of table words) addresses).answer.code
unfolding move_list_in move_left register_words answer_of
list-x0 d state granules table words addresses = rw (list-is (record_of state) granules d (table_of table words) addresses)

reply-x0 : (k : Kind) (g : Granules) (w : World) (c : Call) →
    x0_in (reply_registers (call_by k g w c).reply) ≡ x0_of (reply_code (call_by k g w c).reply)
unfolding call_by after_move after_key after_token after_signing after_update reply_registers reply_code register_words move_of moved_by realm_key_of
    keyed features_of features_by update_of update_by answer_of x0_of extended
reply-x0 ForwardError g w c = refl
reply-x0 Delegate g w c = refl
reply-x0 Undelegate g w c = refl
reply-x0 RealmKey g w c = refl
reply-x0 PlatformToken g w c = token-tells c.state w.page w.session c.busy c.token c.x1 c.x2 c.x3
reply-x0 Features g w c = refl
reply-x0 TokenSigning g w c = signing-tells c.state w.page w.queue c.public_key c.x1 c.x2 c.x3 c.x4
reply-x0 KeyUpdate g w c = refl
reply-x0 Unlisted g w c = refl

pub exports-tell : ExportsTell
unfolding set_up_in set_up_left move_in move_left move_of moved_by register_words realm_key_of keyed token_in token_left features_of features_by signing_in
    signing_on signing_left image_step update_of update_by sign_in sign_left sign_on sign_of call_in call_left call_of answer_of
exports-tell =
    record {
      set_up = λ granules banks n. refl;
      delegation = λ d state granules table words address. refl;
      lists = list-x0;
      realm_key = λ state page key pa size curve. refl;
      token =
          λ state session page token busy pa size csize. token-tells (record_of state) page (session_of session)
          (is_set busy) token pa size csize;
      features = λ state index. refl;
      signing = λ state queue page key opcode pa size curve. signing-tells (record_of state) page (lists_in queue) key opcode pa size curve;
      update = λ state width mecid. refl;
      sign = λ queue signature. refl;
      call = λ granules session queue page table words c. reply-x0 (kind_of c.id) granules (world_in session queue page table words) c;
    }
