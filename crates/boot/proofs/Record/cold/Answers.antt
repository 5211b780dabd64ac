use mathlib.Core.Path.{ap}
use Rattle.std.proofs.lemmas.Result.{MatchResult-weaker}
use Rattle.boot.specs.Boot.{params_of, cold_code, cold_next}
use Rattle.boot.specs.declared.Record.TheVariants.{Up}
use Rattle.boot.proofs.Booting.{told}
use Rattle.boot.proofs.Record.cold.Goals as goal

pub returns : goal.returns
unfolding cold_next
returns c =
    let a = c.args in
    told (cold_code a.self a.x0 a.x1 a.x2 a.x3 a.maxcpus a.kept a.page.now) (Up (params_of a.x1 a.x2 a.x3 a.kept)) c.cold_checked.result _ _
    c.ended.ensures (MatchResult-weaker c.cold_checked.result c.cold_checked.ensures (λ u h. (h.0, ap Up h.1)) (λ e h. h))
