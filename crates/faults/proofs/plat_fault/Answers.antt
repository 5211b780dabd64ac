use Rattle.std.proofs.Common.{◌+◌, ◌-◌, ◌∙◌, arith, rules, le-ltb, lt-ltb, eq-eqb, ne_eqb, le-leb}
use borrow.Author.Tests.{lt-leb}
use Rattle.words.specs.Tests.{both}
use Rattle.versions.specs.Edition.{core}
use Rattle.faults.specs.Faults.{unless, plat_fault}
use Rattle.faults.proofs.Faults.{fields_lent}
use Rattle.faults.proofs.plat_fault.Goals as goal

pub returns-then-plat-eq0 : goal.returns-then-plat-eq0
unfolding plat_fault
returns-then-plat-eq0 c = let a = c.args in simp (eq-eqb a.plat 0 (search rules))

pub returns-then-plat-base : goal.returns-then-plat-base
unfolding unless plat_fault both
returns-then-plat-base c =
    let a = c.args in
    simp (ne_eqb a.plat 0 (search rules), lt-leb (a.base + core a.e.minor) a.plat (omega arith)) c.found_at.ensures

pub returns-then-base-plat : goal.returns-then-base-plat
unfolding unless plat_fault both
returns-then-base-plat c =
    let a = c.args in
    simp (
      ne_eqb a.plat 0 (search rules),
      le-leb (a.base + core a.e.minor) a.plat (omega arith),
      le-ltb a.plat (a.base + 4096) (omega arith),
    ) c.found_at-then-base-plat.ensures

pub returns : goal.returns
unfolding unless plat_fault both
returns c =
    let a = c.args in
    simp (
      ne_eqb a.plat 0 (search rules),
      le-leb (a.base + core a.e.minor) a.plat (omega arith),
      lt-ltb a.plat (a.base + 4096) (omega arith),
    ) (c.fields_fault.ensures ∙
    fields_lent (a.plat - a.base) (a.plat - a.base) a.page.now)
