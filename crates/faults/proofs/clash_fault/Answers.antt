use Rattle.std.proofs.Common.{sym, refl, ◌∙◌, arith, rules, Ok}
use Rattle.faults.specs.Faults.{clash}
use Rattle.faults.proofs.Order.{first-none, told_more, told_at, told-all}
use Rattle.faults.proofs.Faults.{clash-clear, clash-at}
use Rattle.faults.proofs.clash_fault.Goals as goal

pub loop-j-init : goal.loop-j-init
loop-j-init c =
    let a = c.args in (search rules, first-none (clash a.rule a.section a.offset a.from a.to a.page.now))

pub returns-then-not-is_clear : goal.returns-then-not-is_clear
returns-then-not-is_clear c =
    let a = c.args in
    let l = c.loop-j in
    let z = clash-at a.rule a.section a.offset a.from a.to a.page.now l.j
    (sym c.is_clear.ensures ∙ c.if-not-is_clear.true) in
    told_at (clash a.rule a.section a.offset a.from a.to a.page.now) l.j _ l.invariant.1
    (c.found_at.ensures ∙ sym z) a.n _ (omega arith) c.found_at.ensures

pub loop-j-preserved : goal.loop-j-preserved
loop-j-preserved c =
    let a = c.args in
    let l = c.loop-j in
    let z = clash-clear a.rule a.section a.offset a.from a.to a.page.now l.j
    (sym c.is_clear.ensures ∙ c.if-not-is_clear.false) in (
      search rules,
      told_more (clash a.rule a.section a.offset a.from a.to a.page.now) l.j (Ok tt) l.invariant.1
          (sym z) refl,
    )

pub returns : goal.returns
returns c =
    let a = c.args in
    told-all (clash a.rule a.section a.offset a.from a.to a.page.now) c.loop-j.j a.n
    c.loop-j.invariant.1 (omega arith)
