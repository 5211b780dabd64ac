use Rattle.sections.proofs.Sections.{clear_none, clear-more, pair-apart, apart_none, apart_more, apart-not}
use Rattle.sections.specs.Steps.{clear_to, apart_to}
use borrow.Author.Rules.{rules}
use mathlib.Core.Path.{◌≡◌, refl, sym, ap, ◌∙◌}
use native.Mathlib.Omega.{arith}
use Rattle.sections.proofs.all_apart.Goals as goal

pub pairs-init : goal.pairs-init
pairs-init c = (search rules, refl, apart_none c.args.page.now)

pub end_of-to-requires : goal.end_of-to-requires
end_of-to-requires c = c.requires.1 c.pairs.i (search rules)

pub loop-j-init : goal.loop-j-init
loop-j-init c = (
  search rules,
  search rules,
  clear_none c.args.page.now
      c.pairs.i,
)

pub loop-j-preserved : goal.loop-j-preserved
loop-j-preserved c =
    let a = c.args in
    let o = c.pairs in
    let l = c.loop-j in
    let e = pair-apart a.page.now o.i l.j _ _ c.pointer_at-from.ensures
    c.end_of-to.ensures in (
      search rules,
      search rules,
      clear-more a.page.now o.i l.j l.invariant.2
          (sym e ∙ sym c.is_clear.ensures ∙ c.if-not-is_clear.false),
    )

pub pairs-preserved : goal.pairs-preserved
pairs-preserved c =
    let l = c.loop-j in
    let o = c.pairs in
    let a = c.args in
    let e : l.j ≡ o.i = omega arith in (
      search rules,
      search rules,
      apart_more a.page.now o.i o.invariant.2
          (ap (λ x. clear_to o.i x a.page.now) (sym e) ∙ l.invariant.2),
    )

pub returns-after-pairs : goal.returns-after-pairs
returns-after-pairs c =
    let o = c.pairs in
    let a = c.args in
    let e : o.i ≡ a.n = omega arith in
    o.invariant.1 ∙ sym (ap (λ x. apart_to x a.page.now) (sym e) ∙ o.invariant.2)

pub returns-then-not-is_clear : goal.returns-then-not-is_clear
returns-then-not-is_clear c =
    let a = c.args in
    let o = c.pairs in
    let l = c.loop-j in
    let e = pair-apart a.page.now o.i l.j _ _ c.pointer_at-from.ensures
    c.end_of-to.ensures in
    sym (apart-not a.page.now a.n o.i l.j (search rules) (search rules)
    (sym e ∙ sym c.is_clear.ensures ∙ c.if-not-is_clear.true))
