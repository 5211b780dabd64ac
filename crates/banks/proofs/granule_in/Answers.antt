use Rattle.std.proofs.Common.{◌%◌, sym, ◌∙◌, arith, rules, eq-eqb, ne_eqb}
use Rattle.words.specs.Tests.{both}
use Rattle.banks.specs.Fast.{granule_in}
use Rattle.banks.proofs.Laws.{holds-facts}
use Rattle.banks.proofs.granule_in.Goals as goal

pub returns-then-address-ne0 : goal.returns-then-address-ne0
unfolding granule_in both
returns-then-address-ne0 c = let a = c.args in simp (ne_eqb (a.address % 4096) 0 (search rules))

pub returns-then-not-bank_holds : goal.returns-then-not-bank_holds
unfolding granule_in both
returns-then-not-bank_holds c =
    let a = c.args in
    rw (eq-eqb (a.address % 4096) 0 (search rules), sym c.bank_holds.ensures ∙ c.if-not-bank_holds.true)

pub overflow_sub-index : goal.overflow_sub-index
overflow_sub-index c =
    let v = holds-facts _ _ _ (sym c.bank_holds.ensures ∙ c.if-not-bank_holds.false) in
    omega (arith, v.from)

pub returns : goal.returns
unfolding granule_in both
returns c =
    let a = c.args in
    rw (eq-eqb (a.address % 4096) 0 (search rules), sym c.bank_holds.ensures ∙ c.if-not-bank_holds.false)
