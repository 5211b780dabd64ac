use Rattle.std.proofs.Common.{◌+◌, ◌*◌, ◌%◌, ◌^◌, arith, rules, le-ltb, lt-ltb, eq-eqb, ne_eqb, le-leb}
use borrow.Author.Tests.{lt-leb}
use Rattle.words.specs.Tests.{either}
use Rattle.entries.specs.Entry.{flags_ok}
use Rattle.faults.specs.Faults.{unless, console_fault}
use Rattle.faults.proofs.Faults.{either_true}
use Rattle.faults.proofs.console_fault.Goals as goal

pub returns-then-base-ne0 : goal.returns-then-base-ne0
unfolding unless console_fault
returns-then-base-ne0 c = let a = c.args in simp (ne_eqb (a.base % 4096) 0 (search rules)) c.found_at.ensures

pub returns-then-pages-eq0 : goal.returns-then-pages-eq0
unfolding unless console_fault
returns-then-pages-eq0 c =
    let a = c.args in
    simp (eq-eqb (a.base % 4096) 0 (search rules), le-ltb 0 a.pages (search rules)) c.found_at-then-pages-eq0.ensures

pub returns-then-pages-gt1099511627776 : goal.returns-then-pages-gt1099511627776
unfolding unless console_fault
returns-then-pages-gt1099511627776 c =
    let a = c.args in
    simp (
      eq-eqb (a.base % 4096) 0 (search rules),
      lt-ltb 0 a.pages (search rules),
      lt-leb (a.base + 4096 * a.pages) (2 ^ 52) (omega arith),
    ) c.found_at-then-pages-gt1099511627776.ensures

pub returns-then-pages-base : goal.returns-then-pages-base
unfolding unless console_fault
returns-then-pages-base c =
    let a = c.args in
    simp (
      eq-eqb (a.base % 4096) 0 (search rules),
      lt-ltb 0 a.pages (search rules),
      lt-leb (a.base + 4096 * a.pages) (2 ^ 52) (omega arith),
    ) c.found_at-then-pages-base.ensures

pub returns-then-minor-gt4 : goal.returns-then-minor-gt4
unfolding unless console_fault flags_ok
returns-then-minor-gt4 c =
    let a = c.args in
    simp (
      eq-eqb (a.base % 4096) 0 (search rules),
      lt-ltb 0 a.pages (search rules),
      le-leb (a.base + 4096 * a.pages) (2 ^ 52) (omega arith),
      lt-ltb 4 a.minor (search rules),
      either_true,
    )

pub returns-then-flags-ne0 : goal.returns-then-flags-ne0
unfolding unless console_fault flags_ok either
returns-then-flags-ne0 c =
    let a = c.args in
    simp (
      eq-eqb (a.base % 4096) 0 (search rules),
      lt-ltb 0 a.pages (search rules),
      le-leb (a.base + 4096 * a.pages) (2 ^ 52) (omega arith),
      le-ltb 4 a.minor (search rules),
      ne_eqb a.flags 0 (search rules),
    )
    c.found_at-then-flags-ne0.ensures

pub returns : goal.returns
unfolding unless console_fault flags_ok either
returns c =
    let a = c.args in
    simp (
      eq-eqb (a.base % 4096) 0 (search rules),
      lt-ltb 0 a.pages (search rules),
      le-leb (a.base + 4096 * a.pages) (2 ^ 52) (omega arith),
      eq-eqb a.flags 0 (search rules),
    )
