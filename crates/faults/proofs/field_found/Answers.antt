use Rattle.std.proofs.Common.{◌≡◌, ◌+◌, ◌*◌, ap, ◌∙◌, arith, Err}
use Rattle.faults.specs.Faults.{mk_fault, field_fault}
use Rattle.faults.proofs.field_found.Goals as goal

pub returns : goal.returns
unfolding field_fault
returns c =
    let a = c.args in
    c.found_at.ensures ∙ ap (λ x. Err (mk_fault a.rule 0 a.i a.offset x 0))
    (let e : a.tag + a.len * 256 ≡ a.tag + 256 * a.len = omega arith in e)
