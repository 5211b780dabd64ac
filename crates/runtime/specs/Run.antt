-- Sequences of commands. Each call carries its boot record; all share one granule record g. Assumes nothing.
use Rattle.std.specs.Prelude.{ℕ, Bool, false, cond, List, [], ◌∷◌, ◌++◌, map, take}
use Rattle.words.specs.Word.{part}
use Rattle.buffer_check.specs.Range.{place_of}
use Rattle.codes.specs.Codes.{is_ok, boot_params}
use Rattle.boot.specs.declared.Record.{Record}
use Rattle.granule_rules.specs.Lists.{done_of}
use Rattle.banks.specs.Banks.{Granules}
use Rattle.granule_rules.specs.declared.Direction.{Direction}
use Rattle.token_rules.specs.Calls.{TokenCall}
use Rattle.queue.specs.declared.Request.{Request}
use Rattle.queue.specs.Queue.{Signed, Lists}
use Rattle.request_rules.specs.Push.{request_of}
use Rattle.response_rules.specs.Sign.{signed_by}
use Rattle.signing.specs.Signing.{opcode_of}
use Rattle.signing.specs.declared.Opcode.{Opcode}
use Rattle.signing.specs.declared.Opcode.TheVariants.{Push, Pull, Key, Other}
use Rattle.runtime.specs.declared.Kind.{Kind}
use Rattle.runtime.specs.declared.Kind.TheVariants.{ForwardError, Delegate, Undelegate, RealmKey, PlatformToken, Features}
use Rattle.runtime.specs.declared.Kind.TheVariants.{TokenSigning, KeyUpdate, Unlisted}
use Rattle.runtime.specs.Step.{World, Call, call_with, Command, call, sign, list, kind_of, step_of, reply_code}

-- the world after a command
abbrev pub next_of : Granules → World → Command → World
next_of g w c = (step_of g w c).next

-- whether a command is accepted
abbrev pub accepted : Granules → World → Command → Bool
accepted g w c = is_ok (reply_code (step_of g w c).reply)

module _ (g : Granules) where
  -- the world after all the commands
  unfoldable pub world_after : World → List Command → World
  world_after w [] = w
  world_after w (c ∷ cs) = world_after (next_of g w c) cs

  -- f of each command, applied to the world before it, joined in order
  unfoldable pub gathered : {A : Type 0} → (World → Command → List A) → World → List Command → List A
  gathered f w [] = []
  gathered f w (c ∷ cs) = f w c ++ gathered f (next_of g w c) cs

-- ---- a list and its single calls
-- the single call for address a; delegation does not use the other arguments
unfoldable pub single_call : Record → Direction → ℕ → Command
single_call r Direction.Delegate a = call (call_with r 0xC40001B0 a 0 0 0 false [] [] [] 0)
single_call r Direction.Undelegate a = call (call_with r 0xC40001B1 a 0 0 0 false [] [] [] 0)

-- Request E1: "Demand 1 counts each granule of a list as a call of its own" (LG4): the single calls that a list has done, also if it is
-- refused
unfoldable pub done_calls : Granules → World → Command → List Command
done_calls g w (call c) = []
done_calls g w (sign s) = []
done_calls g w (list r d l) = map (single_call r d) (take (done_of r g d w.table l) l)

-- ---- the token calls of a sequence
-- l for the platform token, [] for any other command
abbrev pub of_token : {A : Type 0} → Kind → List A → List A
of_token ForwardError l = []
of_token Delegate l = []
of_token Undelegate l = []
of_token RealmKey l = []
of_token PlatformToken l = l
of_token Features l = []
of_token TokenSigning l = []
of_token KeyUpdate l = []
of_token Unlisted l = []

-- a call of the interface as a token call, with the page before it
unfoldable pub token_call : World → Call → TokenCall
token_call w c = record { state = c.state; page = w.page; busy = c.busy; token = c.token; pa = c.x1; size = c.x2; csize = c.x3 }

-- the token call of a command, [] if it is another command
unfoldable pub token_calls : World → Command → List TokenCall
token_calls w (call c) = of_token (kind_of c.id) (token_call w c ∷ [])
token_calls w (sign s) = []
token_calls w (list r d l) = []

-- ---- what moves through the signing queue: requests pushed and signed, responses made and pulled
-- l for token signing, [] for any other command
abbrev pub of_signing : {A : Type 0} → Kind → List A → List A
of_signing ForwardError l = []
of_signing Delegate l = []
of_signing Undelegate l = []
of_signing RealmKey l = []
of_signing PlatformToken l = []
of_signing Features l = []
of_signing TokenSigning l = l
of_signing KeyUpdate l = []
of_signing Unlisted l = []

-- l for a push, [] for any other opcode
abbrev pub of_push : {A : Type 0} → Opcode → List A → List A
of_push Push l = l
of_push Pull l = []
of_push Key l = []
of_push Other l = []

-- l for a pull, [] for any other opcode
abbrev pub of_pull : {A : Type 0} → Opcode → List A → List A
of_pull Push l = []
of_pull Pull l = l
of_pull Key l = []
of_pull Other l = []

-- the request in the buffer of an accepted push
unfoldable pub pushes : Granules → World → Command → List Request
pushes g w (call c) =
    cond (accepted g w (call c)) (of_signing (kind_of c.id)
    (of_push (opcode_of c.x1) (request_of (part (place_of (boot_params c.state) c.x2) c.x3 w.page) ∷ []))) []
pushes g w (sign s) = []
pushes g w (list r d l) = []

-- the response that an accepted pull takes: the oldest
unfoldable pub pulls : Granules → World → Command → List Signed
pulls g w (call c) = cond (accepted g w (call c)) (of_signing (kind_of c.id) (of_pull (opcode_of c.x1) (take 1 w.queue.responses))) []
pulls g w (sign s) = []
pulls g w (list r d l) = []

-- the request that an accepted step of the signer takes: the oldest
unfoldable pub signs : Granules → World → Command → List Request
signs g w (call c) = []
signs g w (sign s) = cond (accepted g w (sign s)) (take 1 w.queue.requests) []
signs g w (list r d l) = []

-- the response that an accepted step of the signer makes
unfoldable pub makes : Granules → World → Command → List Signed
makes g w (call c) = []
makes g w (sign s) = cond (accepted g w (sign s)) (map (λ (q : Request). signed_by q s) (take 1 w.queue.requests)) []
makes g w (list r d l) = []

-- what identifies a request and its response, unchanged from push to pull: rec_granule and req_ticket (SQ5)
pub record Name : Type 0 where
  pub granule : ℕ
  pub ticket : ℕ

-- the name of a request
abbrev pub asks : Request → Name
asks x = record { granule = x.granule; ticket = x.ticket }

-- the name of a response
abbrev pub gives : Signed → Name
gives x = record { granule = x.granule; ticket = x.ticket }

-- the names of all waiting responses and requests, the oldest first: each response is older than every waiting request
abbrev pub names : Lists → List Name
names q = map gives q.responses ++ map asks q.requests
