use mathlib.Core.Path.{◌≡◌, sym, ap, ◌∙◌}
use Rattle.codes.specs.declared.Work.TheVariants.{Nothing}
use Rattle.queue.specs.Queue.{SigningExit, exit_of}
use Rattle.granule_rules.specs.Granules.{moved_to}
use Rattle.runtime.specs.declared.Reply.TheVariants.{Back}
use Rattle.runtime.specs.Step.{kind_of, call_of, call_by, exit_by, queue_by, reply_code, after_move, after_key, after_token, after_signing}
use Rattle.runtime.specs.Step.{after_update}
use Rattle.runtime.specs.declared.Kind.TheVariants.{ForwardError, Delegate, Undelegate, RealmKey, PlatformToken, Features}
use Rattle.runtime.specs.declared.Kind.TheVariants.{TokenSigning, KeyUpdate, Unlisted}
use Rattle.runtime.proofs.call.Goals as goal

pub returns-in-ForwardError : goal.returns-in-ForwardError
unfolding call_of call_by exit_by queue_by reply_code moved_to after_move after_key after_token after_signing after_update exit_of
returns-in-ForwardError c =
    let a = c.args in
    let h : kind_of a.id ≡ ForwardError = sym c.from-kind.ensures ∙ c.in-ForwardError.is in
    rw (h, c.forward-error.ensures)

pub returns-in-Delegate : goal.returns-in-Delegate
unfolding call_of call_by exit_by queue_by reply_code moved_to after_move after_key after_token after_signing after_update exit_of
returns-in-Delegate c =
    let a = c.args in
    let h : kind_of a.id ≡ Delegate = sym c.from-kind.ensures ∙ c.in-Delegate.is in
    rw (h, c.back.ensures, ← c.delegate-answer.ensures)

pub returns-in-Undelegate : goal.returns-in-Undelegate
unfolding call_of call_by exit_by queue_by reply_code moved_to after_move after_key after_token after_signing after_update exit_of
returns-in-Undelegate c =
    let a = c.args in
    let h : kind_of a.id ≡ Undelegate = sym c.from-kind.ensures ∙ c.in-Undelegate.is in
    rw (h, c.back-in-Undelegate.ensures, ← c.undelegate-answer.ensures)

pub returns-in-RealmKey : goal.returns-in-RealmKey
unfolding call_of call_by exit_by queue_by reply_code moved_to after_move after_key after_token after_signing after_update exit_of
returns-in-RealmKey c =
    let a = c.args in
    let h : kind_of a.id ≡ RealmKey = sym c.from-kind.ensures ∙
    c.in-RealmKey.is in
    rw (h, c.back-in-RealmKey.ensures, ← c.realm_key-answer.ensures)

pub returns-in-PlatformToken : goal.returns-in-PlatformToken
unfolding call_of call_by exit_by queue_by reply_code moved_to after_move after_key after_token after_signing after_update exit_of
returns-in-PlatformToken c =
    let a = c.args in
    let h : kind_of a.id ≡ PlatformToken = sym c.from-kind.ensures ∙
    c.in-PlatformToken.is in
    rw (h, c.after_token.ensures, ← c.platform_token-done.ensures)

pub returns-in-Features : goal.returns-in-Features
unfolding call_of call_by exit_by queue_by reply_code moved_to after_move after_key after_token after_signing after_update exit_of
returns-in-Features c =
    let a = c.args in
    let h : kind_of a.id ≡ Features = sym c.from-kind.ensures ∙
    c.in-Features.is in
    rw (h, c.back-in-Features.ensures, ← c.features-answer.ensures)

pub returns-in-TokenSigning : goal.returns-in-TokenSigning
unfolding call_of call_by exit_by queue_by reply_code moved_to after_move after_key after_token after_signing after_update exit_of
returns-in-TokenSigning c =
    let a = c.args in
    let h : kind_of a.id ≡ TokenSigning = sym c.from-kind.ensures ∙
    c.in-TokenSigning.is in
    rw (h, c.after_signing.ensures) (ap (λ (x : SigningExit). record {
      reply = Back x.answer Nothing;
      page = x.page;
      table = a.table.now;
      words = a.words.now;
      session = a.session;
      queue = x.queue;
    }) c.token_signing-done.ensures)

pub returns-in-KeyUpdate : goal.returns-in-KeyUpdate
unfolding call_of call_by exit_by queue_by reply_code moved_to after_move after_key after_token after_signing after_update exit_of
returns-in-KeyUpdate c =
    let a = c.args in
    let h : kind_of a.id ≡ KeyUpdate = sym c.from-kind.ensures ∙
    c.in-KeyUpdate.is in
    rw (h, c.updated.ensures, ← c.key_update-done.ensures)

pub returns-in-Unlisted : goal.returns-in-Unlisted
unfolding call_of call_by exit_by queue_by reply_code moved_to after_move after_key after_token after_signing after_update exit_of
returns-in-Unlisted c =
    let a = c.args in
    let h : kind_of a.id ≡ Unlisted = sym c.from-kind.ensures ∙
    c.in-Unlisted.is in
    rw (h, c.back-in-Unlisted.ensures, c.refused-answer.ensures)
