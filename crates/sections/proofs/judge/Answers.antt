use Prim.Native.Nat.{ℕ}
use mathlib.Core.Bool.{true, false}
use mathlib.Core.Path.{◌≡◌, sym, ◌∙◌}
use lib.ListN.{length}
use Rattle.words.specs.Tests.{both}
use Rattle.sections.specs.Page.{place_ok}
use Rattle.sections.proofs.Sections.{placed}
use borrow.Author.Rules.{rules}
use native.Mathlib.Omega.{arith}
use Rattle.sections.proofs.judge.Goals as goal

pub returns-then-not-place_ok : goal.returns-then-not-place_ok
unfolding both
returns-then-not-place_ok c =
    let a = c.args in
    let q : place_ok a.base (length a.page.now) ≡ false = sym c.place_ok.ensures ∙ c.if-not-place_ok.true in
    record { value = simp q; copied = λ h. absurd (let z : ◌≡◌ {A = ℕ} 0 1 = cc in omega arith) }

pub copy_core-requires : goal.copy_core-requires
copy_core-requires c =
    let a = c.args in (
      (placed a.base (length a.page.now) (sym c.place_ok.ensures ∙ c.if-not-place_ok.false)).0,
      search rules,
    )

pub rules_ok-requires : goal.rules_ok-requires
rules_ok-requires c =
    let a = c.args in
    let q : place_ok a.base (length a.page.now) ≡ true = sym c.place_ok.ensures ∙
    c.if-not-place_ok.false in
    let p = placed a.base (length a.page.now) q in
    (p.0, c.copy_core.ensures, omega arith)

pub returns : goal.returns
unfolding both
returns c =
    let a = c.args in
    let q : place_ok a.base (length a.page.now) ≡ true = sym
    c.place_ok.ensures ∙
    c.if-not-place_ok.false in
    record { value = simp q c.rules_ok.ensures; copied = λ h. c.copy_core.ensures }
