-- Demand 1: a refused command changes nothing, and returns zeros. Assumes nothing.
use mathlib.Core.Path.{◌≡◌, refl, ap}
use mathlib.Core.Bool.{false, true≢false}
use lib.ListN.{length}
use Rattle.codes.specs.Codes.{is_ok, answer_of}
use Rattle.codes.specs.declared.Answer.{Answer}
use Rattle.granule_rules.specs.Granules.{Moved}
use Rattle.banks.specs.Banks.{Granules}
use Rattle.granule_rules.specs.declared.Direction.{Direction}
use Rattle.granule_rules.proofs.Moving.{move-refused}
use Rattle.attest.specs.Key.{Keyed}
use Rattle.attest.proofs.Keys.{key-refused}
use Rattle.token_rules.specs.Token.{TokenStep}
use Rattle.token_rules.proofs.Tokens.{token-refused}
use Rattle.features.specs.declared.UpdateResult.{UpdateResult}
use Rattle.features.proofs.Feature.{features-refused, update-refused}
use Rattle.queue.specs.Queue.{SigningStep}
use Rattle.response_rules.specs.Sign.{SignStep}
use Rattle.response_rules.proofs.Signs.{sign-refused}
use Rattle.signing.proofs.Signings.{signing-refused}
use Rattle.runtime.specs.declared.Kind.{Kind}
use Rattle.runtime.specs.declared.Kind.TheVariants.{ForwardError, Delegate, Undelegate, RealmKey, PlatformToken, Features}
use Rattle.runtime.specs.declared.Kind.TheVariants.{TokenSigning, KeyUpdate, Unlisted}
use Rattle.runtime.specs.Step.{World, Call, Command, call, sign, list, kind_of, back, after_move, after_key, after_token, after_signing}
use Rattle.runtime.specs.Step.{after_update, after_sign, call_by, call_of, step_of, reply_code, refusal}
use Rattle.runtime.specs.Run.{world_after, done_calls}
use Rattle.runtime.proofs.Lists.{list-run}

refused-by : (k : Kind) (g : Granules) (w : World) (c : Call) → is_ok (reply_code (call_by k g w c).reply) ≡ false →
    call_by k g w c ≡ refusal 0 (call_by k g w c) w
unfolding call_by after_move after_key after_token after_signing after_update reply_code answer_of
refused-by ForwardError g w c h = absurd (true≢false h)
refused-by Delegate g w c h = ap (λ (m : Moved). after_move m w) (move-refused c.state g Direction.Delegate w.table c.x1 h)
refused-by Undelegate g w c h = ap (λ (m : Moved). after_move m w) (move-refused c.state g Direction.Undelegate w.table c.x1 h)
refused-by RealmKey g w c h = ap (λ (k : Keyed). after_key k w) (key-refused c.state w.page c.realm_key c.x1 c.x2 c.x3 h)
refused-by PlatformToken g w c h =
    ap (λ (t : TokenStep). after_token t w) (token-refused c.state w.page w.session c.busy c.token c.x1 c.x2 c.x3 h)
refused-by Features g w c h = ap (λ (a : Answer). back a w) (features-refused c.state c.x1 h)
refused-by TokenSigning g w c h =
    ap (λ (s : SigningStep). after_signing s w) (signing-refused c.state w.page w.queue c.public_key c.x1 c.x2 c.x3
    c.x4 h)
refused-by KeyUpdate g w c h = ap (λ (u : UpdateResult). after_update u w) (update-refused c.state c.width c.x1 h)
refused-by Unlisted g w c h = refl

-- "a refused call returns zero in the other result registers and changes no page, table, session or queue": for any records, any
-- world and any command, including the signer's step. Request E1: "Demand 1 counts each granule of a list as a call of its own, and x1
-- holds the number done on refusal too." Request E6: "no refusal changes a word": the table is its bytes and its words.
pub refused : (g : Granules) (w : World) (c : Command) → is_ok (reply_code (step_of g w c).reply) ≡ false →
    step_of g w c ≡ refusal (length (done_calls g w c)) (step_of g w c) (world_after g w (done_calls g w c))
unfolding step_of call_of after_sign after_move reply_code done_calls world_after
refused g w (call c) h = refused-by (kind_of c.id) g w c h
refused g w (sign s) h = ap (λ (t : SignStep). after_sign t w) (sign-refused w.queue s h)
refused g w (list r d l) h = list-run g r d w l
