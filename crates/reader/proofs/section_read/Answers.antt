use Prim.Native.Nat.{min}
use mathlib.Core.Path.{refl, sym, ◌∙◌}
use native.Mathlib.Omega.{arith}
use Rattle.versions.proofs.Editions.{section-count-most}
use Rattle.reader.proofs.Core.{core-section, core-placed}
use Rattle.reader.proofs.Whole.{section-absent, fine-reads, fine-section, told-section, refused-section, section-told}
use Rattle.reader.proofs.section_read.Goals as goal

pub returns-in_default : goal.returns-in_default
returns-in_default c =
    let a = c.args in
    let told = section-told a.edition a.base a.page.now a.k _
    (refused-section a.edition a.base a.page.now _ a.k (sym c.in_default.is ∙ c.judge.ensures.value)) in record { value = told.0; page_value = told.1 }

pub returns-then-k-gt3 : goal.returns-then-k-gt3
returns-then-k-gt3 c =
    let a = c.args in
    let told = section-told a.edition a.base a.page.now a.k _
    (section-absent (min a.edition c.in-Ok.minor) a.base a.k a.page.now
    (omega (arith, section-count-most (min a.edition c.in-Ok.minor)))
    ∙ fine-section a.edition a.base a.page.now c.in-Ok.minor a.k c.in-Ok.ensures.value) in record { value = told.0; page_value = told.1 }

pub slice_bounds-section_at-end : goal.slice_bounds-section_at-end
slice_bounds-section_at-end c = sym (c.in-Ok.ensures.by_index _ refl).long

pub section_at-requires : goal.section_at-requires
section_at-requires c =
    let a = c.args in
    let f = fine-reads a.edition a.base a.page.now _ c.in-Ok.ensures.value in
    core-placed a.page.now _ (c.in-Ok.ensures.by_index _ refl) c.in-Ok.minor c.edition_read.result.minor a.base
    (rw c.edition_read.ensures f.1) a.k

pub returns : goal.returns
returns c =
    let a = c.args in
    let s = c.section_at.ensures ∙ core-section a.page.now _ (c.in-Ok.ensures.by_index _ refl) _ a.base a.k (omega arith) in
    let told = section-told a.edition a.base a.page.now a.k _
    (told-section a.edition a.base a.page.now c.in-Ok.minor a.k _ c.edition_read.ensures _ c.judge.ensures.value c.in-Ok.is _ s) in
    record { value = told.0; page_value = told.1 }
