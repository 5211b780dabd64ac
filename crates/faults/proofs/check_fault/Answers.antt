use Rattle.std.proofs.Common.{◌≡◌, ◌*◌, ◌∙◌, arith, rules}
use Rattle.entries.specs.Entry.{size, words_per_entry}
use Rattle.faults.proofs.Faults.{check-good, check-bad}
use Rattle.faults.proofs.check_fault.Goals as goal

pub overflow_mul-n : goal.overflow_mul-n
unfolding size
overflow_mul-n c =
    let a = c.args in
    let z : c.entry_words.result * a.count ≡ words_per_entry a.k * a.count = rw c.entry_words.ensures.0 in
    omega (arith, c.requires)

pub sum_words-requires : goal.sum_words-requires
unfolding size
sum_words-requires c =
    let a = c.args in
    let z : c.entry_words.result * a.count ≡ words_per_entry a.k * a.count = rw c.entry_words.ensures.0 in
    omega (arith, c.requires)

pub returns-then-check-wanted : goal.returns-then-check-wanted
returns-then-check-wanted c =
    let a = c.args in
    c.found_at.ensures ∙ check-bad a.k a.at a.count a.pointer a.check a.page.now _ _ _ _ _
    c.entry_words.ensures.0
    c.sum_words.ensures c.wrapping_add_u64-head.ensures.value
    c.wrapping_add_u64-total.ensures.value c.wrapping_sub_u64-wanted.ensures.value (search rules)
    (search rules) c.if-check-wanted.true

pub returns : goal.returns
returns c =
    let a = c.args in
    check-good a.k a.at a.count a.pointer a.check a.page.now _ _ _ _ _
    c.entry_words.ensures.0 c.sum_words.ensures
    c.wrapping_add_u64-head.ensures.value c.wrapping_add_u64-total.ensures.value
    c.wrapping_sub_u64-wanted.ensures.value (search rules) c.if-check-wanted.false
