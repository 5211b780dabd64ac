use Rattle.std.proofs.Common.{Some, sym, ap, ◌∙◌}
use Rattle.fields.specs.Fields.{scan_of}
use Rattle.fields.specs.declared.Stop.{Stop}
use Rattle.fields.proofs.Stops.{passed_by, passed-told}
use Rattle.fields.proofs.count.Goals as goal

pub returns-in-Some-Mark : goal.returns-in-Some-Mark
unfolding passed_by
returns-in-Some-Mark c =
    let m = c.in-Some-Mark in
    sym (ap passed_by (m.is ∙ ap (λ (s : Stop). Some s) m.field-0-is)) ∙ ap passed_by c.walk.ensures ∙ passed-told (scan_of c.args.part.now)

pub returns-in-Some-Edge : goal.returns-in-Some-Edge
unfolding passed_by
returns-in-Some-Edge c =
    let m = c.in-Some-Edge in
    sym (ap passed_by (m.is ∙ ap (λ (s : Stop). Some s) m.field-0-is)) ∙ ap passed_by c.walk.ensures ∙ passed-told (scan_of c.args.part.now)

pub returns-in-None : goal.returns-in-None
unfolding passed_by
returns-in-None c = sym (ap passed_by c.in-None.is) ∙ ap passed_by c.walk.ensures ∙ passed-told (scan_of c.args.part.now)
