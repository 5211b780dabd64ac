use Rattle.std.proofs.Common.{◌+◌, ◌%◌, ◌^◌, arith, rules, le-ltb, lt-ltb, eq-eqb, ne_eqb, le-leb}
use borrow.Author.Tests.{lt-leb}
use Rattle.faults.specs.Faults.{unless, bank_fault}
use Rattle.faults.proofs.bank_fault.Goals as goal

pub returns-then-base-ne0 : goal.returns-then-base-ne0
unfolding unless bank_fault
returns-then-base-ne0 c = let a = c.args in simp (ne_eqb (a.base % 4096) 0 (search rules)) c.found_at.ensures

pub returns-then-size-ne0 : goal.returns-then-size-ne0
unfolding unless bank_fault
returns-then-size-ne0 c =
    let a = c.args in
    simp (eq-eqb (a.base % 4096) 0 (search rules), ne_eqb (a.size % 4096) 0 (search rules)) c.found_at-then-size-ne0.ensures

pub returns-then-size-eq0 : goal.returns-then-size-eq0
unfolding unless bank_fault
returns-then-size-eq0 c =
    let a = c.args in
    simp (eq-eqb (a.base % 4096) 0 (search rules), eq-eqb (a.size % 4096) 0 (search rules), le-ltb 0 a.size (search rules))
    c.found_at-then-size-eq0.ensures

pub returns-then-size-gt-ADDRESS_LIMIT : goal.returns-then-size-gt-ADDRESS_LIMIT
unfolding unless bank_fault
returns-then-size-gt-ADDRESS_LIMIT c =
    let a = c.args in
    simp (
      eq-eqb (a.base % 4096) 0 (search rules),
      eq-eqb (a.size % 4096) 0 (search rules),
      lt-ltb 0 a.size (search rules),
      lt-leb (a.base + a.size) (2 ^ 52) (omega arith),
    ) c.found_at-then-size-gt-ADDRESS_LIMIT.ensures

pub returns-then-size-base : goal.returns-then-size-base
unfolding unless bank_fault
returns-then-size-base c =
    let a = c.args in
    simp (
      eq-eqb (a.base % 4096) 0 (search rules),
      eq-eqb (a.size % 4096) 0 (search rules),
      lt-ltb 0 a.size (search rules),
      lt-leb (a.base + a.size) (2 ^ 52) (omega arith),
    ) c.found_at-then-size-base.ensures

pub returns : goal.returns
unfolding unless bank_fault
returns c =
    let a = c.args in
    simp (
      eq-eqb (a.base % 4096) 0 (search rules),
      eq-eqb (a.size % 4096) 0 (search rules),
      lt-ltb 0 a.size (search rules),
      le-leb (a.base + a.size) (2 ^ 52) (omega arith),
    )
