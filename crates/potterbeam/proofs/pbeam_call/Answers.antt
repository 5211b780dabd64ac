use Rattle.export_rules.proofs.Left.{left-forward, left-delegate, left-undelegate, left_key, left-token, left-features, left-signing}
use Rattle.export_rules.proofs.Left.{left-update, left-unlisted}
use Rattle.potterbeam.proofs.pbeam_call.Goals as goal

pub returns-in-ForwardError : goal.returns-in-ForwardError
returns-in-ForwardError c =
    let a = c.args in
    left-forward a.granules.now a.session.now a.queue.now a.page.now a.table.now a.words.now a.state.now
    a.call.now a.busy a.key.now a.token.now a.public.now a.width _
    c.from-kind.ensures c.in-ForwardError.is _ c.pbeam_forward.ensures

pub returns-in-Delegate : goal.returns-in-Delegate
returns-in-Delegate c =
    let a = c.args in
    left-delegate a.granules.now a.session.now a.queue.now a.page.now a.table.now a.words.now a.state.now
    a.call.now a.busy a.key.now a.token.now a.public.now a.width _
    c.from-kind.ensures c.in-Delegate.is _ _ _ c.pbeam_delegate.ensures

pub returns-in-Undelegate : goal.returns-in-Undelegate
returns-in-Undelegate c =
    let a = c.args in
    left-undelegate a.granules.now a.session.now a.queue.now a.page.now a.table.now a.words.now a.state.now
    a.call.now a.busy a.key.now a.token.now a.public.now a.width _
    c.from-kind.ensures c.in-Undelegate.is _ _ _ c.pbeam_undelegate.ensures

pub returns-in-RealmKey : goal.returns-in-RealmKey
returns-in-RealmKey c =
    let a = c.args in
    left_key a.granules.now a.session.now a.queue.now a.page.now a.table.now a.words.now a.state.now
    a.call.now a.busy a.key.now a.token.now a.public.now a.width _
    c.from-kind.ensures c.in-RealmKey.is _ _ c.pbeam_realm_key.ensures.out_after
    c.pbeam_realm_key.ensures.page_after

pub returns-in-PlatformToken : goal.returns-in-PlatformToken
returns-in-PlatformToken c =
    let a = c.args in
    left-token a.granules.now a.session.now a.queue.now a.page.now a.table.now a.words.now a.state.now
    a.call.now a.busy a.key.now a.token.now a.public.now a.width _
    c.from-kind.ensures c.in-PlatformToken.is _ _ _ c.pbeam_platform_token.ensures

pub returns-in-Features : goal.returns-in-Features
returns-in-Features c =
    let a = c.args in
    left-features a.granules.now a.session.now a.queue.now a.page.now a.table.now a.words.now a.state.now
    a.call.now a.busy a.key.now a.token.now a.public.now a.width _
    c.from-kind.ensures c.in-Features.is _ c.pbeam_features.ensures

pub returns-in-TokenSigning : goal.returns-in-TokenSigning
returns-in-TokenSigning c =
    let a = c.args in
    left-signing a.granules.now a.session.now a.queue.now a.page.now a.table.now a.words.now a.state.now
    a.call.now a.busy a.key.now a.token.now a.public.now a.width _
    c.from-kind.ensures c.in-TokenSigning.is _ _ _ c.pbeam_token_signing.ensures

pub returns-in-KeyUpdate : goal.returns-in-KeyUpdate
returns-in-KeyUpdate c =
    let a = c.args in
    left-update a.granules.now a.session.now a.queue.now a.page.now a.table.now a.words.now a.state.now
    a.call.now a.busy a.key.now a.token.now a.public.now a.width _
    c.from-kind.ensures c.in-KeyUpdate.is _ _ c.pbeam_key_update.ensures.out_after c.pbeam_key_update.ensures.work_after

pub returns-in-Unlisted : goal.returns-in-Unlisted
returns-in-Unlisted c =
    let a = c.args in
    left-unlisted a.granules.now a.session.now a.queue.now a.page.now a.table.now a.words.now a.state.now
    a.call.now a.busy a.key.now a.token.now a.public.now a.width _
    c.from-kind.ensures c.in-Unlisted.is _ c.answer_with.ensures _ c.registers.ensures
