use Rattle.std.proofs.Common.{Some, sym, ap, ◌∙◌}
use Rattle.fields.specs.Fields.{scan_of}
use Rattle.fields.specs.declared.Stop.{Stop}
use Rattle.fields.proofs.Stops.{extent_of, extent-told}
use Rattle.fields.proofs.scan.Goals as goal

pub returns-in_err-end : goal.returns-in_err-end
unfolding extent_of
returns-in_err-end c =
    c.from_residual.ensures ∙ sym (ap extent_of c.in_err-end.was) ∙ ap extent_of c.walk.ensures ∙ extent-told (scan_of c.args.part.now)

pub returns-in-Mark : goal.returns-in-Mark
unfolding extent_of
returns-in-Mark c =
    sym (ap extent_of (c.in_ok-end.was ∙ ap (λ (s : Stop). Some s) c.in-Mark.is)) ∙ ap extent_of c.walk.ensures ∙
    extent-told (scan_of c.args.part.now)

pub returns-in-Edge : goal.returns-in-Edge
unfolding extent_of
returns-in-Edge c =
    sym (ap extent_of (c.in_ok-end.was ∙ ap (λ (s : Stop). Some s) c.in-Edge.is)) ∙ ap extent_of c.walk.ensures ∙
    extent-told (scan_of c.args.part.now)
