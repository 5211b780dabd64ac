-- One step of the runtime: state, command, answer, next state. Assumes nothing.
use Rattle.std.specs.Prelude.{ℕ, Bool, true, false, cond, List, eqb}
use Rattle.boot.specs.declared.Record.{Record}
use Rattle.codes.specs.Codes.{answer_of}
use Rattle.codes.specs.declared.Answer.{Answer}
use Rattle.codes.specs.declared.Code.{Code}
use Rattle.codes.specs.declared.Code.TheVariants.{Ok, Unk}
use Rattle.codes.specs.declared.Work.TheVariants.{Nothing}
use Rattle.granule_rules.specs.Granules.{GranuleTable, table_of, Moved, delegate_of, undelegate_of}
use Rattle.granule_rules.specs.Lists.{move_list_of}
use Rattle.banks.specs.Banks.{Granules}
use Rattle.granule_rules.specs.declared.Direction.{Direction}
use Rattle.attest.specs.Key.{Keyed, realm_key_of}
use Rattle.token_rules.specs.Token.{TokenStep, token_of}
use Rattle.token_rules.specs.declared.Session.{Session}
use Rattle.features.specs.Features.{features_of, update_of, forward_of}
use Rattle.features.specs.declared.UpdateResult.{UpdateResult}
use Rattle.queue.specs.declared.Queue.{Queue}
use Rattle.queue.specs.Queue.{Lists, SigningStep, queue_next}
use Rattle.response_rules.specs.Sign.{SignStep, sign_of}
use Rattle.signing.specs.Signing.{signing_of}
use Rattle.runtime.specs.declared.Kind.{Kind}
use Rattle.runtime.specs.declared.Kind.TheVariants.{ForwardError, Delegate, Undelegate, RealmKey, PlatformToken, Features}
use Rattle.runtime.specs.declared.Kind.TheVariants.{TokenSigning, KeyUpdate, Unlisted}
use Rattle.runtime.specs.declared.Reply.{Reply}
use Rattle.runtime.specs.declared.Reply.TheVariants.{Forward, Back}
use Rattle.runtime.specs.declared.StepResult.{StepResult}

-- everything that a command may change. No command changes the boot record or the granule record. (BT7, GE5)
pub record World : Type 0 where
  pub page : List ℕ
  pub table : GranuleTable
  pub session : Session
  pub queue : Lists

-- the world w with page p
abbrev pub with_page : List ℕ → World → World
with_page p w = record { page = p; table = w.table; session = w.session; queue = w.queue }

-- the world w with table t
abbrev pub with_table : GranuleTable → World → World
with_table t w = record { page = w.page; table = t; session = w.session; queue = w.queue }

-- the world w with session s
abbrev pub with_session : Session → World → World
with_session s w = record { page = w.page; table = w.table; session = s; queue = w.queue }

-- the world w with queue q
abbrev pub with_queue : Lists → World → World
with_queue q w = record { page = w.page; table = w.table; session = w.session; queue = q }

-- the world of a lent page, a granule table with its realm words, a session and a queue
abbrev pub world_of : List ℕ → List ℕ → List ℕ → Session → Lists → World
world_of page table words s q = record { page = page; table = table_of table words; session = s; queue = q }

-- a call of the interface: the boot record at the time of the call, the function id, the argument registers, and what the platform lends or
-- passes with it
pub record Call : Type 0 where
  pub state : Record
  pub id : ℕ
  pub x1 : ℕ
  pub x2 : ℕ
  pub x3 : ℕ
  pub x4 : ℕ
  pub busy : Bool
  pub realm_key : List ℕ
  pub token : List ℕ
  pub public_key : List ℕ
  pub width : ℕ

-- the call with these values
abbrev pub call_with : (state : Record) (id x1 x2 x3 x4 : ℕ) (busy : Bool) (key token public : List ℕ) (width : ℕ) → Call
call_with r id x1 x2 x3 x4 busy key token public width =
    record {
      state = r;
      id = id;
      x1 = x1;
      x2 = x2;
      x3 = x3;
      x4 = x4;
      busy = busy;
      realm_key = key;
      token = token;
      public_key = public;
      width = width;
    }

-- a command: a call of the interface, the signer's step with a signature, or delegation of a list of granules (request E1), which has
-- no function id
pub data Command : Type 0 where
  call : Call → Command
  sign : List ℕ → Command
  list : Record → Direction → List ℕ → Command

-- the reply to a command, and the next world
pub record Step : Type 0 where
  pub reply : Reply
  pub next : World

-- "Any function id not listed below: UNK. The id is compared as 64 bits." (RT3, RT5)
unfoldable pub kind_of : ℕ → Kind
kind_of id =
    cond (eqb id 0xC400018F) ForwardError
    (cond (eqb id 0xC40001B0) Delegate
    (cond (eqb id 0xC40001B1) Undelegate
    (cond (eqb id 0xC40001B2) RealmKey
    (cond (eqb id 0xC40001B3) PlatformToken
    (cond (eqb id 0xC40001B4) Features
    (cond (eqb id 0xC40001B5) TokenSigning
    (cond (eqb id 0xC40001B6) KeyUpdate
    Unlisted)))))))

-- ---- the step of each command: its answer, with the part of the world that it may change replaced
-- a command that changes nothing
abbrev pub back : Answer → World → Step
back a w = record { reply = Back a Nothing; next = w }

-- delegation changes the table
unfoldable pub after_move : Moved → World → Step
after_move m w = back m.answer (with_table m.table w)

-- the realm key changes the page
unfoldable pub after_key : Keyed → World → Step
after_key k w = back k.answer (with_page k.page w)

-- the platform token changes page and session
unfoldable pub after_token : TokenStep → World → Step
after_token t w = back t.answer (with_session t.session (with_page t.page w))

-- token signing changes page and queue
unfoldable pub after_signing : SigningStep → World → Step
after_signing s w = back s.answer (with_queue s.queue (with_page s.page w))

-- a key update changes nothing here, and gives the platform work
unfoldable pub after_update : UpdateResult → World → Step
after_update u w = record { reply = Back u.answer u.work; next = w }

-- the signer's step changes the queue
unfoldable pub after_sign : SignStep → World → Step
after_sign s w = back s.answer (with_queue s.queue w)

-- ---- the step of a call of this kind
unfoldable pub call_by : Kind → Granules → World → Call → Step
call_by ForwardError g w c = record { reply = Forward (forward_of c.state c.x1); next = w }
call_by Delegate g w c = after_move (delegate_of c.state g w.table c.x1) w
call_by Undelegate g w c = after_move (undelegate_of c.state g w.table c.x1) w
call_by RealmKey g w c = after_key (realm_key_of c.state w.page c.realm_key c.x1 c.x2 c.x3) w
call_by PlatformToken g w c = after_token (token_of c.state w.page w.session c.busy c.token c.x1 c.x2 c.x3) w
call_by Features g w c = back (features_of c.state c.x1) w
call_by TokenSigning g w c = after_signing (signing_of c.state w.page w.queue c.public_key c.x1 c.x2 c.x3 c.x4) w
call_by KeyUpdate g w c = after_update (update_of c.state c.width c.x1) w
call_by Unlisted g w c = back (answer_of Unk 0 0) w

-- the step of a call
unfoldable pub call_of : Granules → World → Call → Step
call_of g w c = call_by (kind_of c.id) g w c

-- the step of any command
unfoldable pub step_of : Granules → World → Command → Step
step_of g w (call c) = call_of g w c
step_of g w (sign s) = after_sign (sign_of w.queue s) w
step_of g w (list r d l) = after_move (move_list_of r g d w.table l) w

-- the code of a reply; 0xC400018F has no result and is never refused, so it counts as OK
unfoldable pub reply_code : Reply → Code
reply_code (Forward n) = Ok
reply_code (Back a work) = a.code

-- a refusal (demand 1, GE4): the code, zeros in the other registers, no work for the platform, and the world unchanged. For a list x1 is
-- the number of granules done.
abbrev pub refusal : ℕ → Step → World → Step
refusal x1 s w = record { reply = Back (answer_of (reply_code s.reply) x1 0) Nothing; next = w }

-- ---- `runtime::call`: the reply, page, table and words at exit, and the session and queue that it returns
pub record CallExit : Type 0 where
  pub reply : Reply
  pub page : List ℕ
  pub table : List ℕ
  pub words : List ℕ
  pub session : Session
  pub queue : Queue

-- from the returned value and the lent bytes and words at exit
abbrev pub call_exit : StepResult → List ℕ → List ℕ → List ℕ → CallExit
call_exit r page table words = record { reply = r.reply; page = page; table = table; words = words; session = r.session; queue = r.queue }

-- only the platform token uses the session (RT10)
abbrev pub uses_session : Kind → Bool
uses_session ForwardError = false
uses_session Delegate = false
uses_session Undelegate = false
uses_session RealmKey = false
uses_session PlatformToken = true
uses_session Features = false
uses_session TokenSigning = false
uses_session KeyUpdate = false
uses_session Unlisted = false

-- only token signing uses the queue (RT10)
abbrev pub uses_queue : Kind → Bool
uses_queue ForwardError = false
uses_queue Delegate = false
uses_queue Undelegate = false
uses_queue RealmKey = false
uses_queue PlatformToken = false
uses_queue Features = false
uses_queue TokenSigning = true
uses_queue KeyUpdate = false
uses_queue Unlisted = false

-- the queue after a command: unchanged if the command does not use it
unfoldable pub queue_by : Kind → Code → Lists → Queue → Queue
queue_by kind k new old = cond (uses_queue kind) (queue_next k new old) old

-- what `runtime::call` must leave, from the step s and the queue before it
unfoldable pub exit_by : Kind → Queue → Step → CallExit
exit_by kind old s =
    record {
      reply = s.reply;
      page = s.next.page;
      table = s.next.table.bytes;
      words = s.next.table.words;
      session = s.next.session;
      queue = queue_by kind (reply_code s.reply) s.next.queue old;
    }
