use mir.Val.{to_z, of_z}
use mir.Syntax.{w64}
use mathlib.Core.Path.{◌≡◌, ◌∙◌}
use Rattle.potterbeam_tpm.proofs.Left.{left_is}
use borrow.Author.Rules.{rules}
use Rattle.potterbeam_tpm.proofs.pbeam_tpm_comm.Goals as goal

pub returns : goal.returns
returns c =
    let a = c.args in
    let r = c.comm-returned in
    let q : to_z w64 (of_z w64 c.from.result) ≡ c.from.result = search rules in
    left_is _ r.result a.session.now _ a.memory.now _ a.response.now _ a.forbidden a.fault
    (q ∙ c.from.ensures) c.word_after.ensures _ _ _ c.session_of.ensures
    c.says.ensures c.says-2.ensures
    r.ensures
