use Rattle.std.proofs.Common.{rules, eq-eqb, ne_eqb}
use Rattle.pack.proofs.plat_pointer.Goals as goal

pub returns-then-at-end : goal.returns-then-at-end
returns-then-at-end c = let a = c.args in simp (eq-eqb a.at a.end (search rules))

pub returns : goal.returns
returns c = let a = c.args in simp (ne_eqb a.at a.end (search rules))
