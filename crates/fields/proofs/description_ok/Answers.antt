use Rattle.std.proofs.Common.{Some, sym, ap, ◌∙◌}
use Rattle.fields.specs.Fields.{scan_of}
use Rattle.fields.specs.declared.Stop.{Stop}
use Rattle.fields.proofs.Stops.{is_told, told-tellable}
use Rattle.fields.proofs.description_ok.Goals as goal

pub returns-in-Some-Mark : goal.returns-in-Some-Mark
unfolding is_told
returns-in-Some-Mark c =
    let m = c.in-Some-Mark in
    sym (ap is_told (m.is ∙ ap (λ (s : Stop). Some s) m.field-0-is)) ∙ ap is_told c.walk.ensures ∙ told-tellable (scan_of c.args.description.now)

pub returns-in-Some-Edge : goal.returns-in-Some-Edge
unfolding is_told
returns-in-Some-Edge c =
    let m = c.in-Some-Edge in
    sym (ap is_told (m.is ∙ ap (λ (s : Stop). Some s) m.field-0-is)) ∙ ap is_told c.walk.ensures ∙ told-tellable (scan_of c.args.description.now)

pub returns-in-None : goal.returns-in-None
unfolding is_told
returns-in-None c = sym (ap is_told c.in-None.is) ∙ ap is_told c.walk.ensures ∙ told-tellable (scan_of c.args.description.now)
