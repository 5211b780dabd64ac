use Rattle.std.proofs.Common.{sym, ◌∙◌, rules}
use Rattle.sections.proofs.Core.{core-count, core-pointer, core-check}
use Rattle.pack.proofs.Moves.{moved_none, moved-some}
use Rattle.pack.proofs.section_words.Goals as goal

pub returns-then-count-eq0 : goal.returns-then-count-eq0
returns-then-count-eq0 c =
    let a = c.args in
    let p = c.requires in
    moved_none a.page.now a.k a.pointer (sym (c.count_at-count.ensures ∙
    core-count a.page.now a.core.now p.1 a.k p.2) ∙ c.if-count-eq0.true)

pub returns : goal.returns
returns c =
    let a = c.args in
    let p = c.requires in
    let n = c.count_at-count.ensures ∙ core-count a.page.now a.core.now p.1 a.k p.2 in
    let q = c.pointer_at.ensures ∙ core-pointer a.page.now a.core.now p.1 a.k p.2 in
    let s = c.check_at.ensures ∙ core-check a.page.now a.core.now p.1 a.k p.2 in
    rw n (moved-some a.page.now a.k a.pointer _ _ p.0 (λ z. c.if-count-eq0.false (n ∙ z))
    (rw q at c.wrapping_sub_u64-moved.ensures.value) (rw s at c.wrapping_sub_u64-check.ensures.value) (search rules))
