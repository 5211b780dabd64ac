use Rattle.std.proofs.Common.{length, ◌∙◌, arith, rules}
use Rattle.sections.proofs.Sections.{placed}
use Rattle.faults.proofs.Order.{told_on}
use Rattle.faults.proofs.Told.{told-padding, told-plat, told-top, told-sections, told-ends, told-overlaps}
use Rattle.faults.proofs.rules_fault.Goals as goal

pub returns-then-padding-ne0 : goal.returns-then-padding-ne0
returns-then-padding-ne0 c =
    let a = c.args in
    c.found_at.ensures ∙ told-padding a.minor a.e.minor a.base a.page.now c.requires _
    c.padding_at-padding.ensures c.if-padding-ne0.true

pub plat_fault-requires : goal.plat_fault-requires
plat_fault-requires c =
    let a = c.args in
    let p = placed a.base (length a.page.now) c.requires in
    (p.0, omega (arith, p.3))

pub returns-in_default : goal.returns-in_default
returns-in_default c =
    let a = c.args in
    told-plat a.minor a.e.minor a.base a.page.now c.requires _
    c.padding_at-padding.ensures c.if-padding-ne0.false _
    c.word_at-plat.ensures _ c.plat_rule.ensures
    c.in_default.is _ c.plat_fault.ensures

pub sections_fault-requires : goal.sections_fault-requires
sections_fault-requires c =
    let a = c.args in omega (arith, (placed a.base (length a.page.now) c.requires).3)

pub returns-in_err-sections_fault : goal.returns-in_err-sections_fault
returns-in_err-sections_fault c =
    let a = c.args in
    told_on c.in_err-sections_fault.was c.from_residual.ensures.1 ∙ told-sections a.minor a.e.minor a.base a.page.now c.requires _
    c.padding_at-padding.ensures c.if-padding-ne0.false _ c.word_at-plat.ensures _
    c.plat_rule.ensures _
    c.in-Some.is _ c.sections-n.ensures.0 _
    c.sections_fault.ensures _ c.in_err-sections_fault.was

pub overflow_add-plat : goal.overflow_add-plat
overflow_add-plat c =
    let a = c.args in
    omega (
      arith,
      told-top a.minor a.e.minor a.base a.page.now c.requires _
          c.padding_at-padding.ensures c.if-padding-ne0.false _ c.word_at-plat.ensures _
          c.plat_rule.ensures _
          c.in-Some.is,
    )

pub overlaps-requires : goal.overlaps-requires
overlaps-requires c =
    let a = c.args in (
      search rules,
      told-ends a.minor a.e.minor a.base a.page.now c.requires _
          c.padding_at-padding.ensures c.if-padding-ne0.false _ c.word_at-plat.ensures _
          c.plat_rule.ensures _
          c.in-Some.is _ c.sections-n.ensures.0 _
          c.sections_fault.ensures c.in_ok-sections_fault.was,
    )

pub returns : goal.returns
returns c =
    let a = c.args in
    told-overlaps a.minor a.e.minor a.base a.page.now c.requires _
    c.padding_at-padding.ensures c.if-padding-ne0.false _ c.word_at-plat.ensures _
    c.plat_rule.ensures _ c.in-Some.is _
    c.sections-n.ensures.0 _ c.sections_fault.ensures
    c.in_ok-sections_fault.was _ c.overlaps.ensures
