use mathlib.Core.Bool.{true, false}
use mathlib.Core.Path.{◌≡◌, sym, ◌∙◌}
use lib.ListN.{length}
use Rattle.words.specs.Tests.{both}
use Rattle.sections.specs.Page.{place_ok}
use Rattle.sections.proofs.Sections.{placed, told-end, told-own, told-before, told-stays}
use borrow.Author.Rules.{rules}
use native.Mathlib.Omega.{arith}
use Rattle.sections.proofs.keeps_section.Goals as goal

pub returns-then-not-place_ok : goal.returns-then-not-place_ok
unfolding both
returns-then-not-place_ok c =
    let a = c.args in
    let q : place_ok a.base (length a.page.now) ≡ false = sym c.place_ok.ensures ∙ c.if-not-place_ok.true in
    simp q

pub section_ok-requires : goal.section_ok-requires
section_ok-requires c =
    let a = c.args in
    let q : place_ok a.base (length a.page.now) ≡ true = sym c.place_ok.ensures ∙
    c.if-not-place_ok.false in
    let p = placed a.base (length a.page.now) q in (
      p.0,
      omega arith,
      search rules,
      search rules,
      c.count_at-count.ensures,
      c.pointer_at-pointer.ensures,
      c.check_at-check.ensures,
    )

pub returns-then-not-section_ok : goal.returns-then-not-section_ok
returns-then-not-section_ok c =
    let a = c.args in
    let q : place_ok a.base (length a.page.now) ≡ true = sym
    c.place_ok.ensures ∙
    c.if-not-place_ok.false in
    told-own a.minor a.e.minor a.base a.k a.page.now _ c.section_ok.ensures q a.from a.to
    (c.if-not-section_ok.true)

pub end_of-end-requires : goal.end_of-end-requires
end_of-end-requires c =
    let a = c.args in
    let q : place_ok a.base (length a.page.now) ≡ true = sym
    c.place_ok.ensures ∙
    c.if-not-place_ok.false in
    omega (
      arith,
      (placed a.base (length a.page.now) q).3,
      told-end a.minor a.e.minor a.base a.k a.page.now _ c.section_ok.ensures (c.if-not-section_ok.false),
    )

pub returns-then-not-all_clear : goal.returns-then-not-all_clear
returns-then-not-all_clear c =
    let a = c.args in
    let q : place_ok a.base (length a.page.now) ≡ true = sym c.place_ok.ensures ∙
    c.if-not-place_ok.false in
    told-before a.minor a.e.minor a.base a.k a.page.now _ c.section_ok.ensures q
    a.from a.to (c.if-not-section_ok.false) _
    c.pointer_at-pointer.ensures _ c.end_of-end.ensures _
    c.all_clear.ensures (c.if-not-all_clear.true)

pub returns : goal.returns
returns c =
    let a = c.args in
    let q : place_ok a.base (length a.page.now) ≡ true = sym c.place_ok.ensures ∙
    c.if-not-place_ok.false in
    told-stays a.minor a.e.minor a.base a.k a.page.now _
    c.section_ok.ensures q a.from a.to
    (c.if-not-section_ok.false) _ c.pointer_at-pointer.ensures _
    c.end_of-end.ensures _ c.all_clear.ensures
    (c.if-not-all_clear.false) _ c.is_clear.ensures
