-- What the exports of the runtime's commands leave in the lent words and bytes. A refused call leaves every image unchanged,
-- including a forged one. Assumes nothing.
use Rattle.std.specs.Prelude.{ℕ, cond, List, get_or}
use Rattle.codes.specs.Codes.{x0_of, if_ok}
use Rattle.codes.specs.declared.Code.{Code}
use Rattle.writer_checks.specs.Description.{description_of}
use Rattle.writer_rules.specs.Write.{Made, write_of}
use Rattle.banks.specs.Banks.{SetUp, set_up_of, granule_count}
use Rattle.realm_words.specs.Answers.{Built, realm_build_of}
use Rattle.granule_rules.specs.Granules.{table_of, Moved, move_of}
use Rattle.granule_rules.specs.Lists.{move_list_of}
use Rattle.granule_rules.specs.declared.Direction.{Direction}
use Rattle.token_rules.specs.Token.{TokenStep, token_of}
use Rattle.token_rules.specs.declared.Session.{Session}
use Rattle.response_rules.specs.OnImage.{SignImage, sign_on}
use Rattle.signing.specs.OnImage.{signing_done, signing_on}
use Rattle.runtime.specs.Step.{World, world_of, Call, call_with, Step, kind_of, call_of, reply_code, uses_session, uses_queue}
use Rattle.runtime.specs.declared.Kind.{Kind}
use Rattle.images.specs.Image.{record_of, is_set, session_of, session_words, register_words, reply_registers, reply_words}
use Rattle.images.specs.Realm.{built_x0}
use Rattle.queue_image.specs.Image.{lists_in}
use Rattle.queue_image.specs.OnImage.{ImageStep}

-- ---- the writer's answer for four lists and the fields; n is the page's length
abbrev pub write_in : ℕ → ℕ → ℕ → List ℕ → List ℕ → List ℕ → List ℕ → List ℕ → Made
write_in base n edition dram console ncoh coh fields = write_of base n edition (description_of dram console ncoh coh fields)

-- ---- the session's image after a call with code k: written if the call is accepted, otherwise unchanged
unfoldable pub session_after : Code → Session → List ℕ → List ℕ
session_after k s image = if_ok k (session_words s) image

-- ---- the set-up of the granule record: x0 and the record
pub record SetUpLeft : Type 0 where
  pub x0 : ℕ
  pub granules : List ℕ

-- from the answer of the set-up
unfoldable pub set_up_left : SetUp → SetUpLeft
set_up_left s = record { x0 = x0_of s.code; granules = s.granules }

-- what pbeam_set_up_granules leaves, for a table of n granules
unfoldable pub set_up_in : List ℕ → List ℕ → ℕ → SetUpLeft
set_up_in granules banks n = set_up_left (set_up_of banks n granules)

-- ---- delegation: the result registers, the table and its words
pub record MoveLeft : Type 0 where
  pub out : List ℕ
  pub table : List ℕ
  pub words : List ℕ

-- from the answer of a delegation
unfoldable pub move_left : Moved → MoveLeft
move_left m = record { out = register_words m.answer; table = m.table.bytes; words = m.table.words }

-- what pbeam_delegate and pbeam_undelegate leave
unfoldable pub move_in : Direction → List ℕ → List ℕ → List ℕ → List ℕ → ℕ → MoveLeft
move_in d state granules table words address = move_left (move_of (record_of state) granules d (table_of table words) address)

-- what pbeam_delegate_list and pbeam_undelegate_list leave
unfoldable pub move_list_in : Direction → List ℕ → List ℕ → List ℕ → List ℕ → List ℕ → MoveLeft
move_list_in d state granules table words addresses = move_left (move_list_of (record_of state) granules d (table_of table words) addresses)

-- ---- building the realm words: x0 and the words
pub record BuildLeft : Type 0 where
  pub x0 : ℕ
  pub words : List ℕ

-- from the answer of building
unfoldable pub build_left : Built → BuildLeft
build_left b = record { x0 = built_x0 b.done; words = b.words }

-- what pbeam_realm_build leaves
unfoldable pub build_in : List ℕ → List ℕ → List ℕ → BuildLeft
build_in granules table words = build_left (realm_build_of table words (granule_count granules))

-- ---- the platform token: the result registers, the page and the session's image
pub record TokenLeft : Type 0 where
  pub out : List ℕ
  pub page : List ℕ
  pub session : List ℕ

-- from the token's step and the session's image before it
unfoldable pub token_left : TokenStep → List ℕ → TokenLeft
token_left t image = record { out = register_words t.answer; page = t.page; session = session_after t.answer.code t.session image }

-- what pbeam_platform_token leaves
unfoldable pub token_in : (state session page token : List ℕ) (busy pa size csize : ℕ) → TokenLeft
token_in state image page token busy pa size c =
    token_left (token_of (record_of state) page (session_of image) (is_set busy) token pa size c) image

-- ---- token signing: the result registers, the page and the queue's image
pub record SigningLeft : Type 0 where
  pub out : List ℕ
  pub page : List ℕ
  pub queue : List ℕ

-- from the step on the queue's image
unfoldable pub signing_left : ImageStep → SigningLeft
signing_left s = record { out = register_words s.answer; page = s.page; queue = s.image }

-- what pbeam_token_signing leaves
unfoldable pub signing_in : (state queue page key : List ℕ) (opcode pa size curve : ℕ) → SigningLeft
signing_in state image page key opcode pa size curve = signing_left (signing_on (record_of state) page image key opcode pa size curve)

-- ---- the signer's step: the result registers and the queue's image
pub record SignLeft : Type 0 where
  pub out : List ℕ
  pub queue : List ℕ

-- from the signer's step on the queue's image
unfoldable pub sign_left : SignImage → SignLeft
sign_left s = record { out = register_words s.answer; queue = s.image }

-- what pbeam_sign leaves
unfoldable pub sign_in : List ℕ → List ℕ → SignLeft
sign_in image signature = sign_left (sign_on image signature)

-- ---- any command: the result registers, what the platform must do, page, table and words, and both images
pub record CallLeft : Type 0 where
  pub out : List ℕ
  pub work : List ℕ
  pub page : List ℕ
  pub table : List ℕ
  pub words : List ℕ
  pub session : List ℕ
  pub queue : List ℕ

-- the session's image after a command of this kind: changed only if the command uses it and is accepted
unfoldable pub session_left : Kind → Code → Session → List ℕ → List ℕ
session_left kind k s image = cond (uses_session kind) (session_after k s image) image

-- the same for the queue; `new` is its image after an accepted command
unfoldable pub queue_left : Kind → Code → List ℕ → List ℕ → List ℕ
queue_left kind k new image = cond (uses_queue kind) (if_ok k new image) image

-- what a step s of this kind leaves; `new` is the queue's image after an accepted command
unfoldable pub call_left : Kind → Step → List ℕ → List ℕ → List ℕ → CallLeft
call_left kind s session new queue =
    record {
      out = reply_registers s.reply;
      work = reply_words s.reply;
      page = s.next.page;
      table = s.next.table.bytes;
      words = s.next.table.words;
      session = session_left kind (reply_code s.reply) s.next.session session;
      queue = queue_left kind (reply_code s.reply) new queue;
    }

-- the call that the arguments of pbeam_call describe: boot record, function id and x1 to x4 in the list x, and what the platform passes
unfoldable pub call_lent : List ℕ → List ℕ → ℕ → List ℕ → List ℕ → List ℕ → ℕ → Call
call_lent state x busy key token public width =
    call_with (record_of state) (get_or x 0 0) (get_or x 1 0) (get_or x 2 0) (get_or x 3 0) (get_or x 4 0) (is_set busy) key token public width

-- the world of a session's image, a queue's image, a page, a table and its words
abbrev pub world_in : List ℕ → List ℕ → List ℕ → List ℕ → List ℕ → World
world_in session queue page table words = world_of page table words (session_of session) (lists_in queue)

-- what pbeam_call leaves
unfoldable pub call_in : List ℕ → List ℕ → List ℕ → List ℕ → List ℕ → List ℕ → Call → CallLeft
call_in granules session queue page table words c =
    call_left (kind_of c.id) (call_of granules (world_in session queue page table words) c) session
    (signing_done c.state page queue c.x1 c.x2 c.x3) queue
