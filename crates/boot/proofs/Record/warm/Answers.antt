use mathlib.Core.Path.{sym}
use Rattle.std.proofs.lemmas.Result.{MatchResult-weaker}
use Rattle.boot.specs.Boot.{warm_code, warm_next}
use Rattle.boot.proofs.Booting.{told}
use Rattle.boot.proofs.Record.warm.Goals as goal

pub returns : goal.returns
unfolding warm_next
returns c =
    let a = c.args in
    told (warm_code a.self a.x0) a.self c.warm_checked.result _ _ c.ended.ensures
    (MatchResult-weaker c.warm_checked.result c.warm_checked.ensures (λ u h. (h.0, sym h.1)) (λ e h. h))
