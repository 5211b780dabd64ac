use Rattle.std.proofs.Common.{◌∙◌}
use Rattle.words.specs.Tests.{both}
use Rattle.writer_checks.proofs.Described.{some-list, none-list, sums-not, sums-are, sums-told}
use Rattle.writer_checks.proofs.Lists.sums.Goals as goal

pub returns-in_err-sum_list : goal.returns-in_err-sum_list
unfolding both
returns-in_err-sum_list c =
    let a = c.args in
    let q0 = none-list a.minor 0 a.self.dram.now c.sum_list.ensures c.in_err-sum_list.was in
    let told = sums-told a.minor a.self.dram.now a.self.console.now a.self.ncoh.now a.self.coh.now
    (c.from_residual.ensures ∙ sums-not a.minor a.self.dram.now a.self.console.now a.self.ncoh.now a.self.coh.now (rw (q0))) in
    record { value = told.0; result_value = told.1 }

pub returns-in_err-sum_list-2 : goal.returns-in_err-sum_list-2
unfolding both
returns-in_err-sum_list-2 c =
    let a = c.args in
    let q0 = (some-list a.minor 0 a.self.dram.now _ c.sum_list.ensures c.in_ok-sum_list.was).0 in
    let q1 = none-list a.minor 1 a.self.console.now c.sum_list-2.ensures c.in_err-sum_list-2.was in
    let told = sums-told a.minor a.self.dram.now a.self.console.now a.self.ncoh.now a.self.coh.now
    (c.from_residual-in_err-sum_list-2.ensures ∙ sums-not a.minor a.self.dram.now a.self.console.now a.self.ncoh.now a.self.coh.now (rw (q0, q1))) in
    record { value = told.0; result_value = told.1 }

pub returns-in_err-sum_list-3 : goal.returns-in_err-sum_list-3
unfolding both
returns-in_err-sum_list-3 c =
    let a = c.args in
    let q0 = (some-list a.minor 0 a.self.dram.now _ c.sum_list.ensures c.in_ok-sum_list.was).0 in
    let q1 = (some-list a.minor 1 a.self.console.now _ c.sum_list-2.ensures c.in_ok-sum_list-2.was).0 in
    let q2 = none-list a.minor 2 a.self.ncoh.now c.sum_list-3.ensures c.in_err-sum_list-3.was in
    let told = sums-told a.minor a.self.dram.now a.self.console.now a.self.ncoh.now a.self.coh.now
    (c.from_residual-in_err-sum_list-3.ensures ∙ sums-not a.minor a.self.dram.now a.self.console.now a.self.ncoh.now a.self.coh.now (rw (q0, q1, q2))) in
    record { value = told.0; result_value = told.1 }

pub returns-in_err-sum_list-4 : goal.returns-in_err-sum_list-4
unfolding both
returns-in_err-sum_list-4 c =
    let a = c.args in
    let q0 = (some-list a.minor 0 a.self.dram.now _ c.sum_list.ensures c.in_ok-sum_list.was).0 in
    let q1 = (some-list a.minor 1 a.self.console.now _ c.sum_list-2.ensures c.in_ok-sum_list-2.was).0 in
    let q2 = (some-list a.minor 2 a.self.ncoh.now _ c.sum_list-3.ensures c.in_ok-sum_list-3.was).0 in
    let q3 = none-list a.minor 3 a.self.coh.now c.sum_list-4.ensures c.in_err-sum_list-4.was in
    let told = sums-told a.minor a.self.dram.now a.self.console.now a.self.ncoh.now a.self.coh.now
    (c.from_residual-in_err-sum_list-4.ensures ∙ sums-not a.minor a.self.dram.now a.self.console.now a.self.ncoh.now a.self.coh.now (rw (q0, q1, q2, q3))) in
    record { value = told.0; result_value = told.1 }

pub returns : goal.returns
unfolding both
returns c =
    let a = c.args in
    let q0 = some-list a.minor 0 a.self.dram.now _ c.sum_list.ensures c.in_ok-sum_list.was in
    let q1 = some-list a.minor 1 a.self.console.now _ c.sum_list-2.ensures c.in_ok-sum_list-2.was in
    let q2 = some-list a.minor 2 a.self.ncoh.now _ c.sum_list-3.ensures c.in_ok-sum_list-3.was in
    let q3 = some-list a.minor 3 a.self.coh.now _ c.sum_list-4.ensures c.in_ok-sum_list-4.was in
    let told = sums-told a.minor a.self.dram.now a.self.console.now a.self.ncoh.now a.self.coh.now
    (sums-are a.minor a.self.dram.now a.self.console.now a.self.ncoh.now a.self.coh.now _ _ _ _ (rw (q0.0, q1.0, q2.0, q3.0)) q0.1 q1.1 q2.1 q3.1) in
    record { value = told.0; result_value = told.1 }
