use Rattle.std.proofs.Common.{◌≡◌, refl, true, false, sym, ◌∙◌, rules, tests, arith}
use Rattle.std.proofs.lemmas.Iterator.{cases_from_all, YieldsList-from_range}
use borrow.Author.Tests.{eq-eqb}
use Rattle.sections.specs.Steps.{clear_at, clear_from}
use Rattle.sections.proofs.Sections.{clear-from-0, every-ran}
use Rattle.sections.proofs.all_clear.Goals as goal

pub returns-then-to-eq0 : goal.returns-then-to-eq0
returns-then-to-eq0 c =
    let a = c.args in eq-eqb a.to 0 c.if-to-eq0.true ∙ sym (clear-from-0 a.from a.to a.page.now a.n c.if-to-eq0.true)

pub returns-else-to-eq0 : goal.returns-else-to-eq0
unfolding clear_from
returns-else-to-eq0 c =
    let a = c.args in
    every-ran (λ k. clear_at a.from a.to k a.page.now) a.n _
    (cases_from_all _ _ _ (λ k. clear_at a.from a.to k a.page.now ≡ true) (λ k. clear_at a.from a.to k a.page.now ≡ false) c.all.ensures.ran
    (YieldsList-from_range 0 a.n a.n refl (omega arith)) (λ x q k. search (rules, tests)) (λ x q k. search (rules, tests)))
