use mathlib.Core.Bool.{true, false}
use mathlib.Core.Path.{◌≡◌, sym, ◌∙◌}
use lib.ListN.{length}
use Rattle.sections.specs.Page.{place_ok, platform_at}
use Rattle.sections.proofs.Sections.{placed}
use borrow.Author.Rules.{rules}
use native.Mathlib.Omega.{arith}
use Rattle.sections.proofs.plat_rule.Goals as goal

pub returns-then-not-place_ok : goal.returns-then-not-place_ok
returns-then-not-place_ok c =
    let a = c.args in
    let q : place_ok a.base (length a.page.now) ≡ false = sym c.place_ok.ensures ∙ c.if-not-place_ok.true in
    simp q

pub plat_end-requires : goal.plat_end-requires
plat_end-requires c =
    let a = c.args in
    let q : place_ok a.base (length a.page.now) ≡ true = sym c.place_ok.ensures ∙
    c.if-not-place_ok.false in
    let p = placed a.base (length a.page.now) q in
    (p.0, omega arith, search rules, search rules)

pub returns : goal.returns
unfolding platform_at
returns c =
    let a = c.args in
    let q : place_ok a.base (length a.page.now) ≡ true = sym c.place_ok.ensures ∙
    c.if-not-place_ok.false in
    simp q (rw (← c.word_at.ensures) c.plat_end.ensures)
