-- The token session over any sequence of commands. Assumes nothing.
use mathlib.Core.Path.{◌≡◌, refl, ◌∙◌}
use mathlib.Core.Bool.{true}
use mathlib.Core.List.{List, [], ◌∷◌, ◌++◌}
use Rattle.banks.specs.Banks.{Granules}
use Rattle.token_rules.specs.Calls.{TokenCall, token_step_of as token_step, session_after as token_run, token_accepted, oks_of, hunks_of, left_of}
use Rattle.token_rules.specs.Calls.{GoesOn, Calls}
use Rattle.token_rules.proofs.Calls.{token-calls}
use Rattle.runtime.specs.declared.Kind.{Kind}
use Rattle.runtime.specs.declared.Kind.TheVariants.{ForwardError, Delegate, Undelegate, RealmKey, PlatformToken, Features}
use Rattle.runtime.specs.declared.Kind.TheVariants.{TokenSigning, KeyUpdate, Unlisted}
use Rattle.runtime.specs.Step.{World, Call, Command, call, sign, list, kind_of, after_move, after_key, after_token, after_signing}
use Rattle.runtime.specs.Step.{after_update, after_sign, call_by, call_of, step_of}
use Rattle.runtime.specs.Run.{next_of, world_after, gathered, of_token, token_call, token_calls}

-- one call: only 0xC40001B3 changes the session
one-session : (k : Kind) (g : Granules) (w : World) (c : Call) (ts : List TokenCall) →
    token_run (call_by k g w c).next.session ts ≡ token_run w.session (of_token k (token_call w c ∷ []) ++ ts)
unfolding call_by after_move after_key after_token after_signing after_update token_call token_run token_step
one-session ForwardError g w c ts = refl
one-session Delegate g w c ts = refl
one-session Undelegate g w c ts = refl
one-session RealmKey g w c ts = refl
one-session PlatformToken g w c ts = refl
one-session Features g w c ts = refl
one-session TokenSigning g w c ts = refl
one-session KeyUpdate g w c ts = refl
one-session Unlisted g w c ts = refl

-- the session after any commands is the session after their token calls, each with the page at that time
pub session-run : (g : Granules) (w : World) (cs : List Command) →
    (world_after g w cs).session ≡ token_run w.session (gathered g token_calls w cs)
unfolding world_after gathered token_calls step_of call_of after_move after_sign token_run
session-run g w [] = refl
session-run g w (call c ∷ cs) =
    session-run g (next_of g w (call c)) cs ∙ one-session (kind_of c.id) g w c (gathered g token_calls (next_of g w (call c)) cs)
session-run g w (sign s ∷ cs) = session-run g (next_of g w (sign s)) cs
session-run g w (list r d l ∷ cs) = session-run g (next_of g w (list r d l)) cs

-- "With a fixed buffer of b bytes, .. one start and the same token lent throughout, a token of L bytes takes exactly L / b calls, rounded
-- up, refusals not counted", with any other commands in between: x is the start, xs the token calls after it
pub token-run : (g : Granules) (w : World) (cs : List Command) (x : TokenCall) (xs : List TokenCall) →
    gathered g token_calls w cs ≡ x ∷ xs → (x.csize ≡ 0 → ⊥) → token_accepted w.session x ≡ true →
    GoesOn x.token x.size (token_step w.session x).session xs →
    Calls x.token x.size (oks_of w.session (x ∷ xs)) (hunks_of w.session (x ∷ xs)) (left_of 0 w.session (x ∷ xs))
    (world_after g w cs).session
token-run g w cs x xs e n h f = rw (session-run g w cs, e) (token-calls w.session x xs n h f)
