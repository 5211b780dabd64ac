use Rattle.std.proofs.Common.{◌≡◌, refl, true, false, rules, tests, arith}
use Rattle.std.proofs.lemmas.Iterator.{cases_from_all, YieldsList-from_range, serves_from_Range}
use Rattle.sections.specs.Steps.{ok_at, ok_to}
use Rattle.sections.proofs.Sections.{every-ran}
use Rattle.sections.proofs.sections_ok.Goals as goal

pub all-requires-clause-callable : goal.all-requires-clause-callable
all-requires-clause-callable c = serves_from_Range (λ x q k. search (rules, tests)) (λ x low high. let p = c.requires in (p.0, p.1, p.2, p.3, p.4, omega arith))

pub returns : goal.returns
unfolding ok_to
returns c =
    let a = c.args in
    every-ran (λ k. ok_at a.minor a.e.minor a.base k a.page.now) a.n _
    (cases_from_all _ _ _ (λ k. ok_at a.minor a.e.minor a.base k a.page.now ≡ true) (λ k. ok_at a.minor a.e.minor a.base k a.page.now ≡ false) c.all.ensures.ran
    (YieldsList-from_range 0 a.n a.n refl (omega arith)) (λ x q k. search (rules, tests)) (λ x q k. search (rules, tests)))
