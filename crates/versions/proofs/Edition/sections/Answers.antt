use Rattle.versions.proofs.Editions.{section-count-first, section-count-last}
use Rattle.versions.specs.Edition.{section_count}
use borrow.Author.Rules.{rules}
use mathlib.Core.Path.{◌≡◌}
use native.Mathlib.Omega.{arith}
use Rattle.versions.proofs.Edition.sections.Goals as goal

pub returns-in-2 : goal.returns-in-2
unfolding section_count
returns-in-2 c = let e : c.args.self.minor ≡ 2 = c.in-2.is in (rw e, search rules)

pub returns-in-3 : goal.returns-in-3
unfolding section_count
returns-in-3 c = let e : c.args.self.minor ≡ 3 = c.in-3.is in (rw e, search rules)

pub returns-in-0 : goal.returns-in-0
returns-in-0 c = let a = c.args in (rw (section-count-first a.self.minor (search rules)), search rules)

pub returns-in_default : goal.returns-in_default
returns-in_default c = let a = c.args in (rw (section-count-last a.self.minor (omega arith)), search rules)
