-- The signing queue over any sequence of commands: everything that goes in comes out unchanged and in order. Assumes nothing.
use Prim.Native.Nat.{ℕ}
use mathlib.Core.Path.{◌≡◌, refl, sym, ap, ap₂, ◌∙◌}
use mathlib.Core.Bool.{Bool, true, false, cond, true≢false}
use mathlib.Core.List.{List, [], ◌∷◌, ◌++◌, append_assoc, append-nil, map, map-append}
use lib.ListN.{length, take, drop, take-append-drop}
use lib.Dec.{eqb}
use Rattle.words.specs.Word.{part}
use Rattle.boot.specs.declared.Record.{Record}
use Rattle.buffer_check.specs.Range.{place_of}
use Rattle.codes.specs.Codes.{is_ok, boot_params, answer_of}
use Rattle.codes.proofs.Gates.{fails-ok}
use Rattle.codes.specs.declared.Code.{Code}
use Rattle.codes.specs.declared.Code.TheVariants.{Ok, Unk, BadAddr, BadPas, Inval, Again}
use Rattle.banks.specs.Banks.{Granules}
use Rattle.queue.specs.declared.Request.{Request}
use Rattle.queue.specs.Queue.{Signed, Lists, SigningStep, oldest_request}
use Rattle.request_rules.specs.Push.{request_of, pushed}
use Rattle.response_rules.specs.Pull.{pulled}
use Rattle.response_rules.specs.Sign.{sign_code, signed_by, signed, sign_of}
use Rattle.signing.specs.Signing.{opcode_of, signing_of}
use Rattle.signing.specs.declared.Opcode.{Opcode}
use Rattle.signing.proofs.Signings.{signing-by}
use Rattle.runtime.specs.declared.Kind.{Kind}
use Rattle.runtime.specs.declared.Kind.TheVariants.{ForwardError, Delegate, Undelegate, RealmKey, PlatformToken, Features}
use Rattle.runtime.specs.declared.Kind.TheVariants.{TokenSigning, KeyUpdate, Unlisted}
use Rattle.runtime.specs.Step.{World, Call, Command, call, sign, list, kind_of, after_move, after_key, after_token, after_signing}
use Rattle.runtime.specs.Step.{after_update, after_sign, call_by, call_of, step_of, reply_code}
use Rattle.runtime.specs.Run.{next_of, accepted, world_after, gathered, of_signing, of_push, of_pull, pushes, pulls, signs, makes, asks}
use Rattle.runtime.specs.Run.{gives, names}

none : {A : Type 0} (b : Bool) (l : List A) → l ++ cond b [] [] ≡ l
none true l = append-nil l
none false l = append-nil l

nothing : {A : Type 0} (b : Bool) (l : List A) → l ≡ cond b [] [] ++ l
nothing true l = refl
nothing false l = refl

-- ---- one signing call
module _ (r : Record) (page : List ℕ) (q : Lists) (key : List ℕ) (op pa size curve : ℕ) where
  signing-requests : q.requests ++ cond (is_ok (signing_of r page q key op pa size curve).answer.code)
      (of_push (opcode_of op) (request_of (part (place_of (boot_params r) pa) size page) ∷ [])) [] ≡
      (signing_of r page q key op pa size curve).queue.requests
  unfolding answer_of pushed pulled
  signing-requests =
      signing-by (λ (o : Opcode) (s : SigningStep). q.requests ++
      cond (is_ok s.answer.code) (of_push o (request_of (part (place_of (boot_params r) pa) size page) ∷ [])) [] ≡ s.queue.requests)
      r page q key op pa size curve
      (record {
        refusal = λ o k e. rw e (append-nil q.requests);
        push = λ p e. refl;
        pull = λ p e. append-nil q.requests;
        public = λ p e. append-nil q.requests;
      })

  signing-responses : q.responses ≡ cond (is_ok (signing_of r page q key op pa size curve).answer.code)
      (of_pull (opcode_of op) (take 1 q.responses)) [] ++ (signing_of r page q key op pa size curve).queue.responses
  unfolding answer_of pushed pulled
  signing-responses =
      signing-by (λ (o : Opcode) (s : SigningStep). q.responses ≡ cond (is_ok s.answer.code) (of_pull o (take 1 q.responses)) [] ++
      s.queue.responses) r page q key op pa size curve
      (record {
        refusal = λ o k e. rw e;
        push = λ p e. refl;
        pull = λ p e. sym (take-append-drop 1 q.responses);
        public = λ p e. refl;
      })

-- ---- one call
module _ (g : Granules) (w : World) (c : Call) where
  call-requests : (k : Kind) →
      w.queue.requests ++ cond (is_ok (reply_code (call_by k g w c).reply))
      (of_signing k (of_push (opcode_of c.x1) (request_of (part (place_of (boot_params c.state) c.x2) c.x3 w.page) ∷ [])))
      [] ≡ (call_by k g w c).next.queue.requests
  unfolding call_by after_move after_key after_token after_signing after_update reply_code
  call-requests ForwardError = append-nil w.queue.requests
  call-requests Delegate = none (is_ok (reply_code (call_by Delegate g w c).reply)) w.queue.requests
  call-requests Undelegate = none (is_ok (reply_code (call_by Undelegate g w c).reply)) w.queue.requests
  call-requests RealmKey = none (is_ok (reply_code (call_by RealmKey g w c).reply)) w.queue.requests
  call-requests PlatformToken = none (is_ok (reply_code (call_by PlatformToken g w c).reply)) w.queue.requests
  call-requests Features = none (is_ok (reply_code (call_by Features g w c).reply)) w.queue.requests
  call-requests TokenSigning = signing-requests c.state w.page w.queue c.public_key c.x1 c.x2 c.x3 c.x4
  call-requests KeyUpdate = none (is_ok (reply_code (call_by KeyUpdate g w c).reply)) w.queue.requests
  call-requests Unlisted = none (is_ok (reply_code (call_by Unlisted g w c).reply)) w.queue.requests

  call-responses : (k : Kind) →
      w.queue.responses ≡ cond (is_ok (reply_code (call_by k g w c).reply))
      (of_signing k (of_pull (opcode_of c.x1) (take 1 w.queue.responses))) [] ++ (call_by k g w c).next.queue.responses
  unfolding call_by after_move after_key after_token after_signing after_update reply_code
  call-responses ForwardError = refl
  call-responses Delegate = nothing (is_ok (reply_code (call_by Delegate g w c).reply)) w.queue.responses
  call-responses Undelegate = nothing (is_ok (reply_code (call_by Undelegate g w c).reply)) w.queue.responses
  call-responses RealmKey = nothing (is_ok (reply_code (call_by RealmKey g w c).reply)) w.queue.responses
  call-responses PlatformToken = nothing (is_ok (reply_code (call_by PlatformToken g w c).reply)) w.queue.responses
  call-responses Features = nothing (is_ok (reply_code (call_by Features g w c).reply)) w.queue.responses
  call-responses TokenSigning = signing-responses c.state w.page w.queue c.public_key c.x1 c.x2 c.x3 c.x4
  call-responses KeyUpdate = nothing (is_ok (reply_code (call_by KeyUpdate g w c).reply)) w.queue.responses
  call-responses Unlisted = nothing (is_ok (reply_code (call_by Unlisted g w c).reply)) w.queue.responses

-- ---- one step of the signer
first : (s : List ℕ) (l : List Request) → eqb (length l) 0 ≡ false →
    map (λ (x : Request). signed_by x s) (take 1 l) ≡ signed_by (oldest_request l) s ∷ []
unfolding oldest_request
first s [] h = absurd (true≢false h)
first s (x ∷ l) h = refl

sign-some : (q : Lists) (s : List ℕ) → sign_code q s ≡ Ok →
    map (λ (x : Request). signed_by x s) (take 1 q.requests) ≡ signed_by (oldest_request q.requests) s ∷ []
unfolding sign_code
sign-some q s h =
    let a = fails-ok _ _ _ refl h in
    let b = fails-ok _ _ _ refl a.1 in
    let d = fails-ok _ _ _ refl b.1 in
    first s q.requests d.0

sign-requests : (q : Lists) (s : List ℕ) (k : Code) (n : Lists) → n.requests ≡ drop 1 q.requests →
    q.requests ++ [] ≡ cond (is_ok k) (take 1 q.requests) [] ++ (cond (is_ok k) n q).requests
sign-requests q s Ok n e = append-nil q.requests ∙ sym (take-append-drop 1 q.requests) ∙ ap (λ l. take 1 q.requests ++ l) (sym e)
sign-requests q s Unk n e = append-nil q.requests
sign-requests q s BadAddr n e = append-nil q.requests
sign-requests q s BadPas n e = append-nil q.requests
sign-requests q s Inval n e = append-nil q.requests
sign-requests q s Again n e = append-nil q.requests

sign-responses : (q : Lists) (k : Code) (came : List Signed) (n : Lists) → (k ≡ Ok → n.responses ≡ q.responses ++ came) →
    q.responses ++ cond (is_ok k) came [] ≡ (cond (is_ok k) n q).responses
sign-responses q Ok came n e = sym (e refl)
sign-responses q Unk came n e = append-nil q.responses
sign-responses q BadAddr came n e = append-nil q.responses
sign-responses q BadPas came n e = append-nil q.responses
sign-responses q Inval came n e = append-nil q.responses
sign-responses q Again came n e = append-nil q.responses

-- ---- one command
module _ (g : Granules) (w : World) where
  step-requests : (c : Command) → w.queue.requests ++ pushes g w c ≡ signs g w c ++ (next_of g w c).queue.requests
  unfolding pushes signs step_of call_of after_move after_sign sign_of signed answer_of reply_code
  step-requests (call c) = call-requests g w c (kind_of c.id)
  step-requests (sign s) = sign-requests w.queue s (sign_code w.queue s) (signed w.queue s) refl
  step-requests (list r d l) = append-nil w.queue.requests

  step-responses : (c : Command) → w.queue.responses ++ makes g w c ≡ pulls g w c ++ (next_of g w c).queue.responses
  unfolding makes pulls step_of call_of after_move after_sign sign_of signed answer_of reply_code
  step-responses (call c) = append-nil w.queue.responses ∙ call-responses g w c (kind_of c.id)
  step-responses (sign s) =
      sign-responses w.queue (sign_code w.queue s) (map (λ (x : Request). signed_by x s) (take 1 w.queue.requests))
      (signed w.queue s) (λ e. ap (λ l. w.queue.responses ++ l) (sym (sign-some w.queue s e)))
  step-responses (list r d l) = append-nil w.queue.responses

-- ---- any sequence
-- waiting at the start ++ added = taken ++ waiting at the end
books : {A : Type 0} (g : Granules) (held : World → List A) (came went : World → Command → List A) →
    ((w : World) (c : Command) → held w ++ came w c ≡ went w c ++ held (next_of g w c)) →
    (w : World) (cs : List Command) → held w ++ gathered g came w cs ≡ gathered g went w cs ++ held (world_after g w cs)
unfolding gathered world_after
books g held came went one w [] = append-nil (held w)
books g held came went one w (c ∷ cs) =
    sym (append_assoc (held w) (came w c) (gathered g came (next_of g w c) cs))
    ∙ ap (λ l. l ++ gathered g came (next_of g w c) cs) (one w c)
    ∙ append_assoc (went w c) (held (next_of g w c)) (gathered g came (next_of g w c) cs)
    ∙ ap (λ l. went w c ++ l) (books g held came went one (next_of g w c) cs)
    ∙ sym (append_assoc (went w c) (gathered g went (next_of g w c) cs) (held (world_after g (next_of g w c) cs)))

module _ (g : Granules) (w : World) (cs : List Command) where
  -- requests: waiting before ++ pushed = signed ++ waiting after
  pub requests-in-order : w.queue.requests ++ gathered g (pushes g) w cs ≡ gathered g (signs g) w cs ++ (world_after g w cs).queue.requests
  requests-in-order = books g (λ v. v.queue.requests) (pushes g) (signs g) (step-requests g) w cs

  -- responses: waiting before ++ made = pulled ++ waiting after
  pub responses-in-order : w.queue.responses ++ gathered g (makes g) w cs ≡ gathered g (pulls g) w cs ++
      (world_after g w cs).queue.responses
  responses-in-order = books g (λ v. v.queue.responses) (makes g) (pulls g) (step-responses g) w cs

-- ---- from push to pull
made-names : (s : List ℕ) (b : Bool) (l : List Request) →
    map gives (cond b (map (λ (x : Request). signed_by x s) (take 1 l)) []) ≡ map asks (cond b (take 1 l) [])
unfolding signed_by
made-names s true [] = refl
made-names s true (x ∷ l) = refl
made-names s false l = refl

step-names : (g : Granules) (w : World) (c : Command) → map gives (makes g w c) ≡ map asks (signs g w c)
unfolding makes signs
step-names g w (call c) = refl
step-names g w (list r d l) = refl
step-names g w (sign s) = made-names s (accepted g w (sign s)) w.queue.requests

all-names : (g : Granules) (w : World) (cs : List Command) → map gives (gathered g (makes g) w cs) ≡ map asks (gathered g (signs g) w cs)
unfolding gathered
all-names g w [] = refl
all-names g w (c ∷ cs) =
    map-append gives (makes g w c) (gathered g (makes g) (next_of g w c) cs)
    ∙ ap₂ (λ x y. x ++ y) (step-names g w c) (all-names g (next_of g w c) cs)
    ∙ sym (map-append asks (signs g w c) (gathered g (signs g) (next_of g w c) cs))

-- two queues, one after another, act as one
end_to_end : {A B C : Type 0} (f : A → C) (h : B → C) (d made out d' : List A) (a came taken a' : List B) → a ++ came ≡ taken ++ a' →
    d ++ made ≡ out ++ d' → map f made ≡ map h taken →
    (map f d ++ map h a) ++ map h came ≡ map f out ++ (map f d' ++ map h a')
end_to_end f h d made out d' a came taken a' p q m =
    append_assoc (map f d) (map h a) (map h came)
    ∙ ap (λ l. map f d ++ l) (sym (map-append h a came) ∙ ap (map h) p ∙ map-append h taken a' ∙ ap (λ l. l ++ map h a') (sym m))
    ∙ sym (append_assoc (map f d) (map f made) (map h a'))
    ∙ ap (λ l. l ++ map h a') (sym (map-append f d made) ∙ ap (map f) q ∙ map-append f out d')
    ∙ append_assoc (map f out) (map f d') (map h a')

-- rec_granule and req_ticket come out unchanged, in the order in which they went in
pub names-in-order : (g : Granules) (w : World) (cs : List Command) →
    names w.queue ++ map asks (gathered g (pushes g) w cs) ≡ map gives (gathered g (pulls g) w cs) ++ names (world_after g w cs).queue
names-in-order g w cs =
    end_to_end gives asks w.queue.responses (gathered g (makes g) w cs) (gathered g (pulls g) w cs)
    (world_after g w cs).queue.responses
    w.queue.requests (gathered g (pushes g) w cs) (gathered g (signs g) w cs) (world_after g w cs).queue.requests
    (requests-in-order g w cs) (responses-in-order g w cs) (all-names g w cs)
