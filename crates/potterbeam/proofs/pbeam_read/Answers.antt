use mir.Val.{to_z, of_z}
use mir.Syntax.{w32}
use mathlib.Core.Path.{◌≡◌, sym, ap, ◌∙◌}
use Rattle.reader.proofs.Core.{core-view, core-placed}
use Rattle.reader.proofs.Whole.{fine-reads, refused-reads}
use Rattle.images.specs.Image.{view_words}
use Rattle.images.proofs.Answers.{refused-answer}
use Rattle.export_rules.proofs.Shown.{told-read}
use borrow.Author.Rules.{rules}
use Rattle.potterbeam.proofs.pbeam_read.Goals as goal

pub slice_bounds-show-end : goal.slice_bounds-show-end
slice_bounds-show-end c = sym (c.judge.ensures.by_index _ c.in-Ok.is).long

pub show-requires : goal.show-requires
show-requires c =
    let a = c.args in
    let f = fine-reads a.edition a.base a.page.now _
    (sym c.in-Ok.is ∙ c.judge.ensures.value) in
    let k = c.judge.ensures.by_index _ c.in-Ok.is in (
      search rules,
      core-placed a.page.now _ k c.in-Ok.minor
          c.edition_read.result.minor a.base (rw c.edition_read.ensures f.1),
    )

pub returns-in-Ok : goal.returns-in-Ok
returns-in-Ok c =
    let a = c.args in
    let f = fine-reads a.edition a.base a.page.now _
    (sym c.in-Ok.is ∙
    c.judge.ensures.value) in
    let v = core-view a.page.now _ (c.judge.ensures.by_index _
    c.in-Ok.is) c.in-Ok.minor
    c.edition_read.result.minor a.base in
    let told = told-read a.edition a.base _ _ a.page.now c.edition_read.ensures f.2 _
    (c.show.ensures ∙ ap view_words v) in record { value = told.0; view_after = told.1 }

pub returns-in-Err : goal.returns-in-Err
returns-in-Err c =
    let a = c.args in
    let h = refused-reads a.edition a.base a.page.now _
    (sym c.in-Err.is ∙ c.judge.ensures.value) in
    let g = refused-answer a.edition a.base a.page.now _ h in
    let q : to_z w32 (of_z w32 c.from.result) ≡ c.from.result = search rules in
    record { value = q ∙ c.from.ensures ∙ g.0; view_after = g.1 }
