-- x0 of each export is the number of the command's code (RT2). Which code a command gives is proved in `set-up-passes`, `set-up-refused` of
-- `banks`, `move-codes` and `list-codes` of `granule_rules`, `key-codes` of `attest`, `token-codes` of `token_rules`, `features-codes` and
-- `update-codes` of `features`, `signing-codes` of `signing`, and `sign-codes` of `response_rules`. `x0-numbers` of `codes` has the
-- numbers. Assumes nothing.
use Rattle.std.specs.Prelude.{ℕ, ◌≡◌, List, get_or}
use Rattle.codes.specs.Codes.{x0_of}
use Rattle.banks.specs.Banks.{set_up_of}
use Rattle.granule_rules.specs.Granules.{table_of, move_of}
use Rattle.granule_rules.specs.Lists.{move_list_of}
use Rattle.granule_rules.specs.declared.Direction.{Direction}
use Rattle.attest.specs.Key.{realm_key_of}
use Rattle.token_rules.specs.Token.{token_of}
use Rattle.features.specs.Features.{features_of, update_of}
use Rattle.response_rules.specs.Sign.{sign_of}
use Rattle.signing.specs.Signing.{signing_of}
use Rattle.runtime.specs.Step.{Call, call_of, reply_code}
use Rattle.images.specs.Image.{record_of, is_set, session_of, register_words}
use Rattle.queue_image.specs.Image.{lists_in}
use Rattle.export_rules.specs.Exports.{set_up_in, move_in, move_list_in, token_in, signing_in, sign_in, world_in, call_in}

-- x0 of the result registers
abbrev pub x0_in : List ℕ → ℕ
x0_in out = get_or out 0 0

-- for each export, x0 is that of the command's code
pub record ExportsTell : Type 0 where
  -- pbeam_set_up_granules
  pub set_up : (granules banks : List ℕ) (n : ℕ) → (set_up_in granules banks n).x0 ≡ x0_of (set_up_of banks n granules).code
  -- pbeam_delegate, pbeam_undelegate
  pub delegation : (d : Direction) (state granules table words : List ℕ) (address : ℕ) →
      x0_in (move_in d state granules table words address).out ≡ x0_of
      (move_of (record_of state) granules d (table_of table words) address).answer.code
  -- pbeam_delegate_list, pbeam_undelegate_list
  pub lists : (d : Direction) (state granules table words addresses : List ℕ) →
      x0_in (move_list_in d state granules table words addresses).out ≡ x0_of
      (move_list_of (record_of state) granules d (table_of table words) addresses).answer.code
  -- pbeam_realm_key
  pub realm_key : (state page key : List ℕ) (pa size curve : ℕ) →
      x0_in (register_words (realm_key_of (record_of state) page key pa size curve).answer) ≡ x0_of
      (realm_key_of (record_of state) page key pa size curve).answer.code
  -- pbeam_platform_token
  pub token : (state session page token : List ℕ) (busy pa size csize : ℕ) →
      x0_in (token_in state session page token busy pa size csize).out
      ≡ x0_of (token_of (record_of state) page (session_of session) (is_set busy) token pa size csize).answer.code
  -- pbeam_features
  pub features : (state : List ℕ) (index : ℕ) → x0_in (register_words (features_of (record_of state) index)) ≡ x0_of
      (features_of (record_of state) index).code
  -- pbeam_token_signing
  pub signing : (state queue page key : List ℕ) (opcode pa size curve : ℕ) →
      x0_in (signing_in state queue page key opcode pa size curve).out ≡ x0_of
      (signing_of (record_of state) page (lists_in queue) key opcode pa size curve).answer.code
  -- pbeam_key_update
  pub update : (state : List ℕ) (width mecid : ℕ) →
      x0_in (register_words (update_of (record_of state) width mecid).answer) ≡ x0_of (update_of (record_of state) width mecid).answer.code
  -- pbeam_sign
  pub sign : (queue signature : List ℕ) → x0_in (sign_in queue signature).out ≡ x0_of (sign_of (lists_in queue) signature).answer.code
  -- pbeam_call: the code of the command with that id (`call-acts` of `runtime`)
  pub call : (granules session queue page table words : List ℕ) (c : Call) →
      x0_in (call_in granules session queue page table words c).out ≡ x0_of
      (reply_code (call_of granules (world_in session queue page table words) c).reply)
