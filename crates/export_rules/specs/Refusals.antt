-- Demand 1 at the C edge. "a refused call returns zero in the other result registers and changes no page, table, session or queue"
-- (GE4); request E6: "no refusal changes a word" (RW3): what an export leaves if x0 is not 0, for any lent words, including forged images.
-- Assumes nothing.
use Rattle.std.specs.Prelude.{ℕ, ◌≡◌, List, [], ◌∷◌, take, get_or}
use Rattle.codes.specs.Codes.{x0_of}
use Rattle.codes.specs.declared.Code.TheVariants.{Inval}
use Rattle.realm_words.specs.Answers.{realm_count_of, realm_next_of}
use Rattle.granule_rules.specs.Granules.{table_of, move_of}
use Rattle.granule_rules.specs.Lists.{done_by, table_by}
use Rattle.granule_rules.specs.declared.Direction.{Direction}
use Rattle.attest.specs.Key.{realm_key_of}
use Rattle.features.specs.Features.{features_of, update_of}
use Rattle.runtime.specs.Step.{Call}
use Rattle.images.specs.Image.{record_of, register_words, work_words}
use Rattle.images.specs.Realm.{number_x0, number_words, hit_x0, hit_words}
use Rattle.export_rules.specs.Exports.{set_up_in, move_in, move_list_in, build_in, token_in, signing_in, sign_in, call_in}

-- x0 is not 0: the call is refused
abbrev pub RefusedCall : List ℕ → Type 0
RefusedCall out = get_or out 0 0 ≡ 0 → ⊥

-- x0, and zeros in the other registers
abbrev pub x0_alone : List ℕ → List ℕ
x0_alone out = get_or out 0 0 ∷ 0 ∷ 0 ∷ []

-- for each export, what a refusal leaves
pub record ExportsRefuse : Type 0 where
  -- pbeam_set_up_granules. Request E2: "the set-up answers INVAL, with no record made" (BN4)
  pub set_up : (granules banks : List ℕ) (n : ℕ) →
      let l = set_up_in granules banks n in
      (l.x0 ≡ 0 → ⊥) → l ≡ record { x0 = x0_of Inval; granules = granules }
  -- pbeam_delegate, pbeam_undelegate
  pub delegation : (d : Direction) (state granules table words : List ℕ) (address : ℕ) →
      let l = move_in d state granules table words address in
      RefusedCall l.out → l ≡ record { out = x0_alone l.out; table = table; words = words }
  -- pbeam_delegate_list, pbeam_undelegate_list. LG3, LG4: each granule counts as a single call, so x1 is the number done, and table and
  -- words are those after these single calls; also for an accepted list
  pub lists : (d : Direction) (state granules table words addresses : List ℕ) →
      let l = move_list_in d state granules table words addresses in
      let f = move_of (record_of state) granules d in
      let done = done_by f (table_of table words) addresses in
      let after = table_by f (table_of table words) (take done addresses) in
      l ≡ record { out = get_or l.out 0 0 ∷ done ∷ 0 ∷ []; table = after.bytes; words = after.words }
  -- pbeam_realm_key
  pub realm_key : (state page key : List ℕ) (pa size curve : ℕ) →
      let k = realm_key_of (record_of state) page key pa size curve in
      let out = register_words k.answer in
      RefusedCall out → (out ≡ x0_alone out) × (k.page ≡ page)
  -- pbeam_platform_token
  pub token : (state session page token : List ℕ) (busy pa size csize : ℕ) →
      let l = token_in state session page token busy pa size csize in
      RefusedCall l.out → l ≡ record { out = x0_alone l.out; page = page; session = session }
  -- pbeam_features
  pub features : (state : List ℕ) (index : ℕ) →
      let out = register_words (features_of (record_of state) index) in
      RefusedCall out → out ≡ x0_alone out
  -- pbeam_token_signing
  pub signing : (state queue page key : List ℕ) (opcode pa size curve : ℕ) →
      let l = signing_in state queue page key opcode pa size curve in
      RefusedCall l.out → l ≡ record { out = x0_alone l.out; page = page; queue = queue }
  -- pbeam_key_update
  pub update : (state : List ℕ) (width mecid : ℕ) →
      let u = update_of (record_of state) width mecid in
      let out = register_words u.answer in
      RefusedCall out → (out ≡ x0_alone out) × (work_words u.work ≡ 0 ∷ 0 ∷ [])
  -- pbeam_sign
  pub sign : (queue signature : List ℕ) →
      let l = sign_in queue signature in
      RefusedCall l.out → l ≡ record { out = x0_alone l.out; queue = queue }
  -- pbeam_call
  pub call : (granules session queue page table words : List ℕ) (c : Call) →
      let l = call_in granules session queue page table words c in
      RefusedCall l.out → l ≡ record {
        out = x0_alone l.out;
        work = 0 ∷ 0 ∷ [];
        page = page;
        table = table;
        words = words;
        session = session;
        queue = queue;
      }
  -- pbeam_realm_count and pbeam_realm_next write 0. Request E6: "no refusal changes a word" (RW6): pbeam_realm_build
  pub realm_count : (words : List ℕ) (n : ℕ) →
      let a = realm_count_of words n in
      (number_x0 a ≡ 0 → ⊥) → number_words a ≡ 0 ∷ []
  pub realm_next : (words : List ℕ) (n index : ℕ) →
      let a = realm_next_of words n index in
      (hit_x0 a ≡ 0 → ⊥) → hit_words a ≡ 0 ∷ []
  pub realm_build : (granules table words : List ℕ) →
      let l = build_in granules table words in
      (l.x0 ≡ 0 → ⊥) → l ≡ record { x0 = x0_of Inval; words = words }
