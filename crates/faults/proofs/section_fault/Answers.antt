use Rattle.std.proofs.Common.{◌%◌, sym, ◌∙◌, arith, rules, le-ltb, lt-ltb, eq-eqb, ne_eqb}
use Rattle.sections.proofs.Sections.{range-low, range-high}
use Rattle.faults.specs.Faults.{unless, section_tests}
use Rattle.faults.proofs.Faults.{told-section}
use Rattle.faults.proofs.section_fault.Goals as goal

pub returns-then-is_nothing : goal.returns-then-is_nothing
unfolding unless section_tests
returns-then-is_nothing c =
    let a = c.args in
    told-section a.minor a.e.minor a.base a.k a.page.now _ _ _ c.count_at-count.ensures
    c.pointer_at-pointer.ensures c.check_at-check.ensures _
    (simp (sym c.is_nothing.ensures ∙ c.if-is_nothing.true))

pub returns-then-count-eq0 : goal.returns-then-count-eq0
unfolding unless section_tests
returns-then-count-eq0 c =
    let a = c.args in
    told-section a.minor a.e.minor a.base a.k a.page.now _ _ _
    c.count_at-count.ensures
    c.pointer_at-pointer.ensures c.check_at-check.ensures _
    (simp (
      sym c.is_nothing.ensures ∙ c.if-is_nothing.false,
      le-ltb 0 c.count_at-count.result (search rules),
    ) c.found_at.ensures)

pub returns-then-pointer-ne0 : goal.returns-then-pointer-ne0
unfolding unless section_tests
returns-then-pointer-ne0 c =
    let a = c.args in
    told-section a.minor a.e.minor a.base a.k a.page.now _ _ _
    c.count_at-count.ensures
    c.pointer_at-pointer.ensures
    c.check_at-check.ensures _
    (simp (
      sym c.is_nothing.ensures ∙ c.if-is_nothing.false,
      lt-ltb 0 c.count_at-count.result (search rules),
      ne_eqb (c.pointer_at-pointer.result % 8) 0 (search rules),
    )
    c.found_at-then-pointer-ne0.ensures)

pub returns-then-not-is_placed : goal.returns-then-not-is_placed
unfolding unless section_tests
returns-then-not-is_placed c =
    let a = c.args in
    told-section a.minor a.e.minor a.base a.k a.page.now _ _ _ c.count_at-count.ensures c.pointer_at-pointer.ensures
    c.check_at-check.ensures _
    (simp (
      sym c.is_nothing.ensures ∙
          c.if-is_nothing.false,
      lt-ltb 0 c.count_at-count.result (search rules),
      eq-eqb (c.pointer_at-pointer.result % 8) 0 (search rules),
      sym c.is_placed.ensures ∙ c.if-not-is_placed.true,
    ) c.found_at-then-not-is_placed.ensures)

pub overflow_sub-pointer : goal.overflow_sub-pointer
overflow_sub-pointer c =
    let a = c.args in
    omega (
      arith,
      range-low a.e.minor a.base a.k c.count_at-count.result
          c.pointer_at-pointer.result
          (sym c.is_placed.ensures ∙ c.if-not-is_placed.false),
    )

pub array_fault-requires : goal.array_fault-requires
array_fault-requires c =
    let a = c.args in
    omega (
      arith,
      range-low a.e.minor a.base a.k c.count_at-count.result
          c.pointer_at-pointer.result
          (sym c.is_placed.ensures ∙ c.if-not-is_placed.false),
      range-high a.e.minor a.base a.k c.count_at-count.result
          c.pointer_at-pointer.result
          (sym c.is_placed.ensures ∙ c.if-not-is_placed.false),
    )

pub returns : goal.returns
unfolding unless section_tests
returns c =
    let a = c.args in
    told-section a.minor a.e.minor a.base a.k a.page.now _ _ _ c.count_at-count.ensures c.pointer_at-pointer.ensures
    c.check_at-check.ensures _
    (simp (
      sym c.is_nothing.ensures ∙
          c.if-is_nothing.false,
      lt-ltb 0 c.count_at-count.result (search rules),
      eq-eqb (c.pointer_at-pointer.result % 8) 0 (search rules),
      sym c.is_placed.ensures ∙ c.if-not-is_placed.false,
    ) c.array_fault.ensures)
