use mathlib.Core.Path.{◌∙◌}
use Rattle.sections.proofs.Core.{core-word, core-end, core-apart, core-clear}
use Rattle.sections.proofs.Sections.{told-padding, told-broken, told-top, told-each, told-apart, told-clear, told-ends}
use borrow.Author.Rules.{rules}
use native.Mathlib.Omega.{arith}
use Rattle.sections.proofs.rules_ok.Goals as goal

pub returns-then-padding_at-ne0 : goal.returns-then-padding_at-ne0
returns-then-padding_at-ne0 c =
    let a = c.args in
    told-padding a.minor a.e.minor a.base a.page.now _ c.padding_at.ensures c.if-padding_at-ne0.true

pub returns-in_default : goal.returns-in_default
returns-in_default c =
    let a = c.args in
    let w = c.word_at-plat.ensures ∙ core-word a.page.now a.copied.now c.requires.1 8 (omega arith)
    (omega arith) in
    told-broken a.minor a.e.minor a.base a.page.now _ c.padding_at.ensures
    c.if-padding_at-ne0.false _ w _ c.plat_end.ensures c.in_default.is

pub returns-then-not-sections_ok : goal.returns-then-not-sections_ok
returns-then-not-sections_ok c =
    let a = c.args in
    let w = c.word_at-plat.ensures ∙
    core-word a.page.now a.copied.now c.requires.1 8 (omega arith) (omega arith) in
    told-each a.minor a.e.minor a.base a.page.now _ c.padding_at.ensures c.if-padding_at-ne0.false _ w _
    c.plat_end.ensures _ c.in-Some.is _
    c.sections-n.ensures.0 _ c.sections_ok.ensures (c.if-not-sections_ok.true)

pub all_apart-requires : goal.all_apart-requires
all_apart-requires c =
    let a = c.args in (
      search rules,
      λ k h.
          omega (
            arith,
            core-end a.page.now a.copied.now c.requires.1 k
                (omega (arith, c.sections-n.ensures.1)),
            told-ends a.minor a.e.minor a.base _ a.page.now _ c.sections_ok.ensures
                (c.if-not-sections_ok.false) k h,
          ),
    )

pub returns-then-not-all_apart : goal.returns-then-not-all_apart
returns-then-not-all_apart c =
    let a = c.args in
    let w = c.word_at-plat.ensures ∙ core-word a.page.now a.copied.now
    c.requires.1 8 (omega arith) (omega arith) in
    let d = c.all_apart.ensures ∙ core-apart a.page.now a.copied.now
    c.requires.1 _ c.sections-n.ensures.1 in
    told-apart a.minor a.e.minor a.base a.page.now _ c.padding_at.ensures
    c.if-padding_at-ne0.false _ w _ c.plat_end.ensures _
    c.in-Some.is _
    c.sections-n.ensures.0 _ c.sections_ok.ensures
    (c.if-not-sections_ok.false) _ d (c.if-not-all_apart.true)

pub overflow_add-end : goal.overflow_add-end
overflow_add-end c =
    let a = c.args in
    let w = c.word_at-plat.ensures ∙ core-word a.page.now a.copied.now
    c.requires.1 8 (omega arith) (omega arith) in
    omega (
      arith,
      told-top a.minor a.e.minor a.base a.page.now _ c.padding_at.ensures
          c.if-padding_at-ne0.false _ w _ c.plat_end.ensures _
          c.in-Some.is (search rules),
    )

pub returns : goal.returns
returns c =
    let a = c.args in
    let w = c.word_at-plat.ensures ∙ core-word a.page.now a.copied.now c.requires.1 8 (omega arith) (omega arith) in
    let d = c.all_apart.ensures ∙ core-apart a.page.now a.copied.now c.requires.1 _
    c.sections-n.ensures.1 in
    let e = c.all_clear.ensures ∙ core-clear a.page.now a.copied.now c.requires.1 _ _ _
    c.sections-n.ensures.1 in
    told-clear a.minor a.e.minor a.base a.page.now _ c.padding_at.ensures
    c.if-padding_at-ne0.false _ w _ c.plat_end.ensures _
    c.in-Some.is _
    c.sections-n.ensures.0 _
    c.sections_ok.ensures (c.if-not-sections_ok.false) _ d
    (c.if-not-all_apart.false) _ e
