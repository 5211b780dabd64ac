-- Every export of a runtime command and of the signer's step: what it leaves, and which command of `runtime` it runs. Assumes nothing.
use Rattle.std.specs.Prelude.{ℕ, ◌≡◌, cond, List, [], ◌∷◌, ◌++◌, map, get_or, take, eqb}
use Rattle.codes.specs.Codes.{boot_params}
use Rattle.buffer_check.specs.Buffers.{BufferIn}
use Rattle.granule_rules.specs.Granules.{table_of, to_byte}
use Rattle.granule_rules.specs.Changes.{Change, change, RealmAt}
use Rattle.granule_rules.specs.declared.Direction.{Direction}
use Rattle.attest.specs.Key.{realm_key_of}
use Rattle.features.specs.Features.{features_of, update_of, forward_of}
use Rattle.runtime.specs.Step.{Command, call, sign, list, kind_of}
use Rattle.runtime.specs.Changes.{of_move}
use Rattle.runtime.specs.declared.Kind.{Kind}
use Rattle.runtime.specs.declared.Kind.TheVariants.{ForwardError, Delegate, Undelegate, RealmKey, PlatformToken, Features, TokenSigning}
use Rattle.runtime.specs.declared.Kind.TheVariants.{KeyUpdate, Unlisted}
use Rattle.images.specs.Image.{record_of, register_words, work_words}
use Rattle.export_rules.specs.Exports.{move_in, move_list_in, TokenLeft, token_in, SigningLeft, signing_in, SignLeft, sign_in, CallLeft, call_lent}
use Rattle.export_rules.specs.Exports.{call_in}
use Rattle.export_sequences.specs.Chain.{Lent, moves_left, lent_on}

-- a call of an export, with its own arguments: the boot record's image, numbers and bytes
pub data Exported : Type 0 where
  pbeam-delegate : (state : List ℕ) (address : ℕ) → Exported
  pbeam-undelegate : (state : List ℕ) (address : ℕ) → Exported
  pbeam-delegate-list : (state addresses : List ℕ) → Exported
  pbeam-undelegate-list : (state addresses : List ℕ) → Exported
  pbeam-realm-key : (state key : List ℕ) (pa size curve : ℕ) → Exported
  pbeam-platform-token : (state token : List ℕ) (busy pa size csize : ℕ) → Exported
  pbeam-features : (state : List ℕ) (index : ℕ) → Exported
  pbeam-token-signing : (state key : List ℕ) (opcode pa size curve : ℕ) → Exported
  pbeam-key-update : (state : List ℕ) (width mecid : ℕ) → Exported
  pbeam-forward : (state : List ℕ) (x1 : ℕ) → Exported
  pbeam-call : (state x : List ℕ) (busy : ℕ) (key token public : List ℕ) (width : ℕ) → Exported
  pbeam-sign : (signature : List ℕ) → Exported

-- ---- what it leaves: what it is not lent is unchanged; registers and work that it does not write count as zeros
abbrev tokens_left : TokenLeft → Lent → CallLeft
tokens_left l m =
    record { out = l.out; work = 0 ∷ 0 ∷ []; page = l.page; table = m.table; words = m.words; session = l.session; queue = m.queue }

abbrev signings_left : SigningLeft → Lent → CallLeft
signings_left l m =
    record { out = l.out; work = 0 ∷ 0 ∷ []; page = l.page; table = m.table; words = m.words; session = m.session; queue = l.queue }

abbrev signs_left : SignLeft → Lent → CallLeft
signs_left l m =
    record { out = l.out; work = 0 ∷ 0 ∷ []; page = m.page; table = m.table; words = m.words; session = m.session; queue = l.queue }

-- an export that leaves registers, work and the page
abbrev answers_left : List ℕ → List ℕ → List ℕ → Lent → CallLeft
answers_left out work page m =
    record { out = out; work = work; page = page; table = m.table; words = m.words; session = m.session; queue = m.queue }

-- what each export leaves. pbeam_forward has no registers: the dispatcher reports its result as work 2.
unfoldable pub export_left : List ℕ → Lent → Exported → CallLeft
export_left granules m (pbeam-delegate state address) = moves_left (move_in Direction.Delegate state granules m.table m.words address) m
export_left granules m (pbeam-undelegate state address) =
    moves_left (move_in Direction.Undelegate state granules m.table m.words address) m
export_left granules m (pbeam-delegate-list state addresses) =
    moves_left (move_list_in Direction.Delegate state granules m.table m.words addresses) m
export_left granules m (pbeam-undelegate-list state addresses) =
    moves_left (move_list_in Direction.Undelegate state granules m.table m.words addresses) m
export_left granules m (pbeam-realm-key state key pa size curve) =
    answers_left (register_words (realm_key_of (record_of state) m.page key pa size curve).answer) (0 ∷ 0 ∷ [])
    (realm_key_of (record_of state) m.page key pa size curve).page m
export_left granules m (pbeam-platform-token state token busy pa size csize) =
    tokens_left (token_in state m.session m.page token busy pa size csize) m
export_left granules m (pbeam-features state index) =
    answers_left (register_words (features_of (record_of state) index)) (0 ∷ 0 ∷ []) m.page m
export_left granules m (pbeam-token-signing state key opcode pa size curve) =
    signings_left (signing_in state m.queue m.page key opcode pa size curve) m
export_left granules m (pbeam-key-update state width mecid) =
    answers_left (register_words (update_of (record_of state) width mecid).answer) (work_words (update_of (record_of state) width mecid).work)
    m.page m
export_left granules m (pbeam-forward state x1) = answers_left (0 ∷ 0 ∷ 0 ∷ []) (2 ∷ forward_of (record_of state) x1 ∷ []) m.page m
export_left granules m (pbeam-call state x busy key token public width) =
    call_in granules m.session m.queue m.page m.table m.words (call_lent state x busy key token public width)
export_left granules m (pbeam-sign signature) = signs_left (sign_in m.queue signature) m

-- ---- the command that an export runs: a call with id and registers, with only its own arguments lent; the signer's step; or a list of
-- granules
abbrev call_for : List ℕ → List ℕ → ℕ → List ℕ → List ℕ → List ℕ → ℕ → Command
call_for state x busy key token public width = call (call_lent state x busy key token public width)

-- the command of each export
unfoldable pub command_of : Exported → Command
command_of (pbeam-delegate state address) = call_for state (0xC40001B0 ∷ address ∷ []) 0 [] [] [] 0
command_of (pbeam-undelegate state address) = call_for state (0xC40001B1 ∷ address ∷ []) 0 [] [] [] 0
command_of (pbeam-delegate-list state addresses) = list (record_of state) Direction.Delegate addresses
command_of (pbeam-undelegate-list state addresses) = list (record_of state) Direction.Undelegate addresses
command_of (pbeam-realm-key state key pa size curve) = call_for state (0xC40001B2 ∷ pa ∷ size ∷ curve ∷ []) 0 key [] [] 0
command_of (pbeam-platform-token state token busy pa size csize) = call_for state (0xC40001B3 ∷ pa ∷ size ∷ csize ∷ []) busy [] token [] 0
command_of (pbeam-features state index) = call_for state (0xC40001B4 ∷ index ∷ []) 0 [] [] [] 0
command_of (pbeam-token-signing state key opcode pa size curve) = call_for state (0xC40001B5 ∷ opcode ∷ pa ∷ size ∷ curve ∷ []) 0 [] [] key 0
command_of (pbeam-key-update state width mecid) = call_for state (0xC40001B6 ∷ mecid ∷ []) 0 [] [] [] width
command_of (pbeam-forward state x1) = call_for state (0xC400018F ∷ x1 ∷ []) 0 [] [] [] 0
command_of (pbeam-call state x busy key token public width) = call_for state x busy key token public width
command_of (pbeam-sign signature) = sign signature

-- ---- the export for the kind of a call's id, with the arguments that its command uses; for an id that is not listed, pbeam_call itself
unfoldable pub export_for : Kind → List ℕ → List ℕ → ℕ → List ℕ → List ℕ → List ℕ → ℕ → Exported
export_for ForwardError state x busy key token public width = pbeam-forward state (get_or x 1 0)
export_for Delegate state x busy key token public width = pbeam-delegate state (get_or x 1 0)
export_for Undelegate state x busy key token public width = pbeam-undelegate state (get_or x 1 0)
export_for RealmKey state x busy key token public width = pbeam-realm-key state key (get_or x 1 0) (get_or x 2 0) (get_or x 3 0)
export_for PlatformToken state x busy key token public width = pbeam-platform-token state token busy (get_or x 1 0) (get_or x 2 0) (get_or x 3 0)
export_for Features state x busy key token public width = pbeam-features state (get_or x 1 0)
export_for TokenSigning state x busy key token public width =
    pbeam-token-signing state public (get_or x 1 0) (get_or x 2 0) (get_or x 3 0) (get_or x 4 0)
export_for KeyUpdate state x busy key token public width = pbeam-key-update state width (get_or x 1 0)
export_for Unlisted state x busy key token public width = pbeam-call state x busy key token public width

-- ---- what a sequence of exports leaves
unfoldable pub all_exported : List ℕ → Lent → List Exported → Lent
all_exported granules m [] = m
all_exported granules m (e ∷ es) = all_exported granules (lent_on (export_left granules m e)) es

-- ---- Request E8: "with the same boot .. records" (SH3): the same export with this image of the boot record; the signer's step takes no
-- record
unfoldable pub export_under : List ℕ → Exported → Exported
export_under image (pbeam-delegate state address) = pbeam-delegate image address
export_under image (pbeam-undelegate state address) = pbeam-undelegate image address
export_under image (pbeam-delegate-list state addresses) = pbeam-delegate-list image addresses
export_under image (pbeam-undelegate-list state addresses) = pbeam-undelegate-list image addresses
export_under image (pbeam-realm-key state key pa size curve) = pbeam-realm-key image key pa size curve
export_under image (pbeam-platform-token state token busy pa size csize) = pbeam-platform-token image token busy pa size csize
export_under image (pbeam-features state index) = pbeam-features image index
export_under image (pbeam-token-signing state key opcode pa size curve) = pbeam-token-signing image key opcode pa size curve
export_under image (pbeam-key-update state width mecid) = pbeam-key-update image width mecid
export_under image (pbeam-forward state x1) = pbeam-forward image x1
export_under image (pbeam-call state x busy key token public width) = pbeam-call image x busy key token public width
export_under image (pbeam-sign signature) = pbeam-sign signature

-- the granule at addr is Realm in the lent table, by the image of the granule record
abbrev pub RealmIn : List ℕ → ℕ → Lent → Type 0
RealmIn granules addr m = RealmAt granules addr (table_of m.table m.words)

-- B of a boot record's image
abbrev pub base_in : List ℕ → ℕ
base_in image = (boot_params (record_of image)).base

-- the buffer [pa, pa + size) is in the shared page, and the page's granule is Realm
pub record LentIntoRealm (granules image : List ℕ) (m : Lent) (pa size : ℕ) : Type 0 where
  pub buffer : BufferIn (boot_params (record_of image)) m.page pa size
  pub realm : RealmIn granules (base_in image) m

-- the export is accepted: x0 is 0
abbrev pub Oks : List ℕ → Lent → Exported → Type 0
Oks granules m e = get_or (export_left granules m e).out 0 0 ≡ 0

-- each accepted export that writes to the page writes to Realm memory; pbeam_call runs one of these exports (`dispatcher-exports`) (SH4)
pub record ExportsIntoRealm (granules image : List ℕ) (m : Lent) : Type 0 where
  pub key : (key : List ℕ) (pa size curve : ℕ) → Oks granules m (pbeam-realm-key image key pa size curve) →
      LentIntoRealm granules image m pa size
  pub hunk : (token : List ℕ) (busy pa size csize : ℕ) → Oks granules m (pbeam-platform-token image token busy pa size csize) →
      LentIntoRealm granules image m pa size
  pub response : (key : List ℕ) (opcode pa size curve : ℕ) → Oks granules m (pbeam-token-signing image key opcode pa size curve) →
      LentIntoRealm granules image m pa size

-- ---- Request E14: the accepted calls on granules, read from `out`: the address if x0 is 0, or the first x1 addresses of a list
abbrev when_zero : ℕ → List Change → List Change
when_zero x0 l = cond (eqb x0 0) l []

-- the changes that `out` of an export reports (BO4)
unfoldable pub changes_told : List ℕ → Exported → List Change
changes_told out (pbeam-delegate state address) = when_zero (get_or out 0 0) (change Direction.Delegate address ∷ [])
changes_told out (pbeam-undelegate state address) = when_zero (get_or out 0 0) (change Direction.Undelegate address ∷ [])
changes_told out (pbeam-delegate-list state addresses) = map (change Direction.Delegate) (take (get_or out 1 0) addresses)
changes_told out (pbeam-undelegate-list state addresses) = map (change Direction.Undelegate) (take (get_or out 1 0) addresses)
changes_told out (pbeam-realm-key state key pa size curve) = []
changes_told out (pbeam-platform-token state token busy pa size csize) = []
changes_told out (pbeam-features state index) = []
changes_told out (pbeam-token-signing state key opcode pa size curve) = []
changes_told out (pbeam-key-update state width mecid) = []
changes_told out (pbeam-forward state x1) = []
changes_told out (pbeam-call state x busy key token public width) = when_zero (get_or out 0 0) (of_move (kind_of (get_or x 0 0)) (get_or x 1 0))
changes_told out (pbeam-sign signature) = []

-- the changes of a sequence of exports, in order
unfoldable pub all_told : List ℕ → Lent → List Exported → List Change
all_told granules m [] = []
all_told granules m (e ∷ es) = changes_told (export_left granules m e).out e ++ all_told granules (lent_on (export_left granules m e)) es

-- no change in the list is at this address
pub data NoneAt (addr : ℕ) : List Change → Type 0 where
  nowhere : NoneAt addr []
  elsewhere : (c : Change) (cs : List Change) → (c.address ≡ addr → ⊥) → NoneAt addr cs → NoneAt addr (c ∷ cs)

-- "Each granule's byte is the one the last accepted call naming it left, or the starting byte if none did." (BO2): for granule i, at
-- address addr
pub record ByAddress (granules : List ℕ) (m : Lent) (es : List Exported) (addr i : ℕ) : Type 0 where
  pub last : (before : List Change) (d : Direction) (behind : List Change) → all_told granules m es ≡ before ++ change d addr ∷ behind →
      NoneAt addr behind → get_or (all_exported granules m es).table i 0 ≡ to_byte d
  pub none : NoneAt addr (all_told granules m es) → get_or (all_exported granules m es).table i 0 ≡ get_or m.table i 0
