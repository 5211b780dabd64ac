use Rattle.std.proofs.Common.{arith, rules}
use Rattle.writer_checks.specs.Description.{four_lists, description_of}
use Rattle.writer.proofs.Pages.{arrays-law, fields_in, page-law, words-room}
use Rattle.writer.proofs.put_page.Goals as goal

pub put_core-requires : goal.put_core-requires
put_core-requires c =
    let a = c.args in (
      search rules,
      c.requires.1,
      words-room a.e.minor a.lists.dram.now a.lists.console.now a.lists.ncoh.now a.lists.coh.now a.fields.now
          c.requires.2,
      c.requires.3,
    )

pub put_arrays-behind-requires : goal.put_arrays-behind-requires
put_arrays-behind-requires c =
    let a = c.args in
    let r = words-room a.e.minor a.lists.dram.now a.lists.console.now a.lists.ncoh.now a.lists.coh.now a.fields.now c.requires.2 in
    (search rules, r)

pub put_fields-end-requires : goal.put_fields-end-requires
unfolding description_of four_lists
put_fields-end-requires c =
    let a = c.args in
    let d = description_of a.lists.dram.now a.lists.console.now a.lists.ncoh.now a.lists.coh.now a.fields.now in
    let l = fields_in a.base a.e.minor d a.page.now c.requires.1 c.core_size-at.result
    c.put_arrays-behind.result c.requires.2 c.core_size-at.ensures.0
    c.put_arrays-behind.ensures.0 in
    (omega arith, search rules)

pub slice_bounds-clear-count : goal.slice_bounds-clear-count
unfolding description_of four_lists
slice_bounds-clear-count c =
    let a = c.args in
    let d = description_of a.lists.dram.now a.lists.console.now a.lists.ncoh.now a.lists.coh.now a.fields.now in
    let l = fields_in a.base a.e.minor d a.page.now c.requires.1
    c.core_size-at.result
    c.put_arrays-behind.result c.requires.2
    c.core_size-at.ensures.0
    c.put_arrays-behind.ensures.0 in
    omega (arith, c.put_fields-end.ensures.0)

pub slice_bounds-clear-start : goal.slice_bounds-clear-start
unfolding description_of four_lists
slice_bounds-clear-start c =
    let a = c.args in
    let d = description_of a.lists.dram.now a.lists.console.now a.lists.ncoh.now a.lists.coh.now a.fields.now in
    let l = fields_in a.base a.e.minor d a.page.now c.requires.1
    c.core_size-at.result
    c.put_arrays-behind.result c.requires.2
    c.core_size-at.ensures.0
    c.put_arrays-behind.ensures.0 in
    omega (arith, c.put_fields-end.ensures.0)

pub returns : goal.returns
unfolding description_of four_lists
returns c =
    let a = c.args in
    let d = description_of a.lists.dram.now a.lists.console.now a.lists.ncoh.now a.lists.coh.now a.fields.now in
    let z = c.core_size-at in
    let g = arrays-law a.base a.e.minor d a.page.now c.requires.1 z.result _ _ c.requires.2 z.ensures.0
    c.put_core.ensures c.put_arrays-behind.ensures.1 in
    rw c.clear.ensures
    (page-law a.base a.e.minor d a.page.now c.requires.1 z.result c.put_arrays-behind.result c.requires.2
    z.ensures.0 c.put_arrays-behind.ensures.0
    c.put_fields-end.result _ _ g
    c.put_fields-end.ensures.1
    c.put_fields-end.ensures.0)
