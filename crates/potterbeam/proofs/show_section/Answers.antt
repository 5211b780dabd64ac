use Prim.Native.Nat.{◌+◌, ◌*◌}
use mathlib.Core.Path.{◌≡◌, ap, ◌∙◌}
use native.Mathlib.Omega.{arith}
use Rattle.words.specs.Word.{splice}
use Rattle.sections.specs.Page.{count_at}
use Rattle.reader.proofs.Whole.{section-absent, section-empty}
use Rattle.images.specs.Image.{tag_word, place_word, count_word, section_words}
use Rattle.export_rules.proofs.Shown.{told_entries}
use Rattle.potterbeam.proofs.show_section.Goals as goal

pub returns-then-sections-k : goal.returns-then-sections-k
unfolding section_words tag_word place_word count_word
returns-then-sections-k c =
    let a = c.args in
    c.put_three.ensures ∙ ap (λ s. splice (3 + 3 * a.k) (section_words s) a.view.now)
    (section-absent a.e.minor a.base a.k a.core.now (omega arith))

pub returns-then-count-eq0 : goal.returns-then-count-eq0
unfolding section_words tag_word place_word count_word
returns-then-count-eq0 c =
    let a = c.args in
    c.put_three-then-count-eq0.ensures ∙ ap (λ s. splice (3 + 3 * a.k) (section_words s) a.view.now)
    (section-empty a.e.minor a.base a.k a.core.now (omega arith) (omega arith))

pub overflow_sub-from : goal.overflow_sub-from
overflow_sub-from c =
    let z : (count_at c.args.k c.args.core.now ≡ 0 → ⊥) = (λ e. c.if-count-eq0.false (c.count_at-count.ensures ∙ e)) in
    let l = c.requires.2 (omega arith) z in
    omega arith

pub returns : goal.returns
returns c =
    let a = c.args in
    told_entries a.e.minor a.base a.k a.core.now a.view.now (omega arith) _ _
    c.count_at-count.ensures c.pointer_at.ensures
    c.if-count-eq0.false _ c.put_three-2.ensures
