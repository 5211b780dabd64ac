use Rattle.std.proofs.Common.{◌≡◌, sym, ap, ◌∙◌, w32, to_z, of_z, Err, rules}
use Rattle.pack.specs.Pack.{packing_number}
use Rattle.pack.specs.declared.PackError.TheVariants as pack_error
use Rattle.pack.proofs.number.Goals as goal

pub returns-in-Ok : goal.returns-in-Ok
unfolding packing_number
returns-in-Ok c = sym (ap packing_number c.in-Ok.is)

pub returns-in-Err-Refused : goal.returns-in-Err-Refused
unfolding packing_number
returns-in-Err-Refused c =
    let q : to_z w32 (of_z w32 c.from.result) ≡ c.from.result = search rules in
    let e : c.in-Err-Refused.field-0 ≡ pack_error.Refused c.in-Err-Refused.code = rw c.in-Err-Refused.is at c.in-Err-Refused.field-0-is in
    q ∙ c.from.ensures ∙ sym (ap packing_number c.in-Err-Refused.is ∙ ap (λ x. packing_number (Err x)) e)

pub returns-in-Err-Target : goal.returns-in-Err-Target
unfolding packing_number
returns-in-Err-Target c =
    let e : c.in-Err-Target.field-0 ≡ pack_error.Target = rw c.in-Err-Target.is at c.in-Err-Target.field-0-is in
    sym (ap packing_number c.in-Err-Target.is ∙ ap (λ x. packing_number (Err x)) e)
