use mathlib.Core.Path.{◌≡◌, refl, sym, ap, ◌∙◌}
use Rattle.std.specs.Prelude.{Ok, Err}
use Rattle.std.proofs.lemmas.Result.{err_from_is_err_and}
use Rattle.reader.specs.Reading.{reading_answer, reading_of}
use Rattle.reader.proofs.Core.{core-view, core-placed}
use Rattle.reader.proofs.Whole.{fine-reads, refused-reads, reading-answer}
use Rattle.reader.proofs.read.Goals as goal

pub slice_bounds-view_at-end : goal.slice_bounds-view_at-end
slice_bounds-view_at-end c = sym (c.in_ok-minor.ensures.by_index _ refl).long

pub view_at-requires : goal.view_at-requires
view_at-requires c =
    let a = c.args in
    let f = fine-reads a.edition a.base a.page.now _ c.in_ok-minor.ensures.value in
    core-placed a.page.now _ (c.in_ok-minor.ensures.by_index _ refl) c.in_ok-minor.minor c.edition_read-e.result.minor a.base
    (rw c.edition_read-e.ensures f.1)

pub returns-in_err-minor : goal.returns-in_err-minor
returns-in_err-minor c =
    let a = c.args in
    let p = err_from_is_err_and c.from_residual.result c.from_residual.ensures.1 in
    let e = p.1 ∙ ap Err p.2 ∙ refused-reads a.edition a.base a.page.now _ c.in_err-minor.ensures.value in
    record { value = e; result_value = ap (reading_answer a.page.now) e ∙ reading-answer a.edition a.base a.page.now }

pub returns : goal.returns
returns c =
    let a = c.args in
    let f = fine-reads a.edition a.base a.page.now _ c.in_ok-minor.ensures.value in
    let v = c.view_at.ensures ∙ core-view a.page.now _ (c.in_ok-minor.ensures.by_index _ refl) _ _ a.base in
    let e : Ok _ ≡ reading_of a.edition a.base a.page.now = ap Ok v ∙ rw c.edition_read-e.ensures f.2 in
    record { value = e; result_value = ap (reading_answer a.page.now) e ∙ reading-answer a.edition a.base a.page.now }
