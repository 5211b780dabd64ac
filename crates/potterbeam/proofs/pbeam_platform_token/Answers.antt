use Rattle.images.specs.Image.{record_of, is_set, session_of}
use Rattle.export_rules.specs.Exports.{token_in}
use Rattle.export_rules.proofs.Left.{token-left, told-token}
use Rattle.potterbeam.proofs.pbeam_platform_token.Goals as goal

pub returns : goal.returns
unfolding token_in is_set
returns c =
    let a = c.args in
    let r = c.platform_token-done in
    token-left r.result.answer _ a.session.now _ _ _ _ c.registers.ensures c.put_session.ensures
    (told-token (record_of a.state.now) _ a.page.now (session_of a.session.now) _ (is_set a.busy) _ a.token.now a.pa
    a.size a.csize c.record_of.ensures
    c.session_of.ensures
    c.is_set.ensures _ r.ensures)
