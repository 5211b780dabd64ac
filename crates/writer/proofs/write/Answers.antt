use Rattle.std.proofs.Common.{sym, ap, ◌∙◌}
use Rattle.std.specs.Result.{result_ok}
use Rattle.writer_rules.proofs.Checks.{lists-fit}
use Rattle.writer.proofs.Told.{bad_entry, told-place, told-edition, told-unsound, told-fields, told-late, told-room, told-made, told-ready}
use Rattle.writer.proofs.write.Goals as goal

pub returns-then-not-place_ok : goal.returns-then-not-place_ok
returns-then-not-place_ok c =
    let a = c.args in
    let told = told-place a.base a.edition a.dram.now a.console.now a.ncoh.now a.coh.now a.fields.now a.page.now
    (lists-fit a.dram.now a.console.now a.ncoh.now a.coh.now a.fields.now
    c.shared_slice_known-1.given
    c.shared_slice_known-2-1.given
    c.shared_slice_known-3-1.given
    c.shared_slice_known-4-1.given)
    _ c.place_ok.ensures (c.if-not-place_ok.true) in record { result_after = told.0; page_after = told.1.0; yes = told.1.1 }

pub returns-then-not-is_edition : goal.returns-then-not-is_edition
returns-then-not-is_edition c =
    let a = c.args in
    let told = told-edition a.base a.edition a.dram.now a.console.now a.ncoh.now a.coh.now a.fields.now a.page.now
    (lists-fit a.dram.now a.console.now a.ncoh.now a.coh.now a.fields.now c.shared_slice_known-1.given
    c.shared_slice_known-2-1.given c.shared_slice_known-3-1.given
    c.shared_slice_known-4-1.given)
    _ c.place_ok.ensures (c.if-not-place_ok.false)
    _ c.is_edition.ensures (c.if-not-is_edition.true) in record { result_after = told.0; page_after = told.1.0; yes = told.1.1 }

pub returns-in_err-totals : goal.returns-in_err-totals
returns-in_err-totals c =
    let a = c.args in
    let o = c.ok_or.ensures.ok_part ∙ ap result_ok c.in_err-totals.was in
    let told = told-unsound a.base a.edition a.dram.now a.console.now a.ncoh.now a.coh.now a.fields.now a.page.now
    (lists-fit a.dram.now a.console.now a.ncoh.now a.coh.now a.fields.now
    c.shared_slice_known-1.given c.shared_slice_known-2-1.given
    c.shared_slice_known-3-1.given c.shared_slice_known-4-1.given)
    _ c.place_ok.ensures
    (c.if-not-place_ok.false)
    _ c.is_edition.ensures (c.if-not-is_edition.false)
    _ c.sums-sums.ensures.value o in
    let r = bad_entry c.from_residual.ensures.1 (sym c.in_err-totals.was ∙ c.ok_or.ensures.value) o in
    rw r (record { result_after = told.0; page_after = told.1.0; yes = told.1.1 })

pub returns-then-not-fields_ok : goal.returns-then-not-fields_ok
returns-then-not-fields_ok c =
    let a = c.args in
    let told = told-fields a.base a.edition a.dram.now a.console.now a.ncoh.now a.coh.now a.fields.now a.page.now
    (lists-fit a.dram.now a.console.now a.ncoh.now a.coh.now a.fields.now
    c.shared_slice_known-1.given
    c.shared_slice_known-2-1.given
    c.shared_slice_known-3-1.given
    c.shared_slice_known-4-1.given)
    _ c.place_ok.ensures (c.if-not-place_ok.false)
    _ c.is_edition.ensures
    (c.if-not-is_edition.false)
    _ c.sums-sums.ensures.value _ (c.ok_or.ensures.ok_part ∙ ap result_ok c.in_ok-totals.was)
    _ c.fields_ok.ensures (c.if-not-fields_ok.true) in record { result_after = told.0; page_after = told.1.0; yes = told.1.1 }

pub returns-then-not-later_sections_empty : goal.returns-then-not-later_sections_empty
returns-then-not-later_sections_empty c =
    let a = c.args in
    let told = told-late a.base a.edition a.dram.now a.console.now a.ncoh.now a.coh.now a.fields.now a.page.now
    (lists-fit a.dram.now a.console.now a.ncoh.now a.coh.now a.fields.now c.shared_slice_known-1.given
    c.shared_slice_known-2-1.given c.shared_slice_known-3-1.given
    c.shared_slice_known-4-1.given)
    _ c.place_ok.ensures (c.if-not-place_ok.false)
    _ c.is_edition.ensures (c.if-not-is_edition.false)
    _ c.sums-sums.ensures.value _
    (c.ok_or.ensures.ok_part ∙ ap result_ok c.in_ok-totals.was)
    _ c.fields_ok.ensures (c.if-not-fields_ok.false)
    _ c.later_sections_empty.ensures (c.if-not-later_sections_empty.true) in record { result_after = told.0; page_after = told.1.0; yes = told.1.1 }

pub returns-then-not-room_ok : goal.returns-then-not-room_ok
returns-then-not-room_ok c =
    let a = c.args in
    let told = told-room a.base a.edition a.dram.now a.console.now a.ncoh.now a.coh.now a.fields.now a.page.now
    (lists-fit a.dram.now a.console.now a.ncoh.now a.coh.now a.fields.now
    c.shared_slice_known-1.given c.shared_slice_known-2-1.given
    c.shared_slice_known-3-1.given c.shared_slice_known-4-1.given)
    _ c.place_ok.ensures (c.if-not-place_ok.false)
    _ c.is_edition.ensures (c.if-not-is_edition.false)
    _ c.sums-sums.ensures.value _ (c.ok_or.ensures.ok_part ∙ ap result_ok c.in_ok-totals.was)
    _ c.fields_ok.ensures (c.if-not-fields_ok.false)
    _ c.later_sections_empty.ensures (c.if-not-later_sections_empty.false)
    _ c.room_ok.ensures (c.if-not-room_ok.true) in record { result_after = told.0; page_after = told.1.0; yes = told.1.1 }

pub put_page-requires : goal.put_page-requires
put_page-requires c =
    let a = c.args in
    told-ready a.base a.edition a.dram.now a.console.now a.ncoh.now a.coh.now a.fields.now a.page.now
    _ c.place_ok.ensures
    (c.if-not-place_ok.false)
    _ c.sums-sums.ensures.value _ (c.ok_or.ensures.ok_part ∙ ap result_ok c.in_ok-totals.was)
    _ c.room_ok.ensures (c.if-not-room_ok.false)

pub returns : goal.returns
returns c =
    let a = c.args in
    let told = told-made a.base a.edition a.dram.now a.console.now a.ncoh.now a.coh.now a.fields.now a.page.now
    (lists-fit a.dram.now a.console.now a.ncoh.now a.coh.now a.fields.now
    c.shared_slice_known-1.given
    c.shared_slice_known-2-1.given
    c.shared_slice_known-3-1.given
    c.shared_slice_known-4-1.given)
    _ c.place_ok.ensures (c.if-not-place_ok.false)
    _ c.is_edition.ensures
    (c.if-not-is_edition.false)
    _ c.sums-sums.ensures.value _ (c.ok_or.ensures.ok_part ∙ ap result_ok c.in_ok-totals.was)
    _ c.fields_ok.ensures (c.if-not-fields_ok.false)
    _ c.later_sections_empty.ensures
    (c.if-not-later_sections_empty.false)
    _ c.room_ok.ensures (c.if-not-room_ok.false) _
    c.put_page.ensures in record { result_after = told.0; page_after = told.1.0; yes = told.1.1 }
