use Rattle.std.proofs.Common.{refl, arith, rules}
use Rattle.pack.proofs.Kept.{place-most}
use Rattle.pack.proofs.Whole.{told-size, page-made}
use Rattle.pack.proofs.put_page.Goals as goal

pub put_sections-requires : goal.put_sections-requires
put_sections-requires c =
    let a = c.args in
    let t = told-size a.e.minor a.page.now _ _ _ c.sections-n.ensures.0 c.core_size-size.ensures.0 refl
    c.requires.5 in (
      c.requires.0,
      c.requires.1,
      c.sections-n.ensures.1,
      (λ k l. c.requires.4 k (rw c.sections-n.ensures.0 at l)),
      c.requires.3,
      omega arith,
    )

pub put_arrays-behind-requires : goal.put_arrays-behind-requires
put_arrays-behind-requires c =
    let a = c.args in
    let t = told-size a.e.minor a.page.now _ _ _ c.sections-n.ensures.0
    c.core_size-size.ensures.0 refl c.requires.5 in (
      c.requires.0,
      search rules,
      c.sections-n.ensures.1,
      (λ k l. c.requires.4 k (rw c.sections-n.ensures.0 at l)),
      c.requires.3,
      omega arith,
    )

pub put_fields-end-requires : goal.put_fields-end-requires
put_fields-end-requires c =
    let a = c.args in
    let t = told-size a.e.minor a.page.now _ _ _ c.sections-n.ensures.0
    c.core_size-size.ensures.0 c.fields_place.ensures c.requires.5 in (
      c.requires.0,
      search rules,
      rw c.fields_place.ensures (place-most a.page.now c.requires.0),
      omega (arith, c.put_arrays-behind.ensures.0),
    )

pub plat_pointer-requires : goal.plat_pointer-requires
plat_pointer-requires c =
    let a = c.args in
    let t = told-size a.e.minor a.page.now _ _ _ c.sections-n.ensures.0
    c.core_size-size.ensures.0
    c.fields_place.ensures c.requires.5 in
    (c.requires.2, omega (arith, c.put_arrays-behind.ensures.0))

pub slice_bounds-clear-count : goal.slice_bounds-clear-count
slice_bounds-clear-count c =
    let a = c.args in
    let t = told-size a.e.minor a.page.now _ _ _ c.sections-n.ensures.0
    c.core_size-size.ensures.0 c.fields_place.ensures c.requires.5 in
    omega (arith, c.put_arrays-behind.ensures.0, c.put_fields-end.ensures.0)

pub slice_bounds-clear-start : goal.slice_bounds-clear-start
slice_bounds-clear-start c =
    let a = c.args in
    let t = told-size a.e.minor a.page.now _ _ _ c.sections-n.ensures.0
    c.core_size-size.ensures.0 c.fields_place.ensures c.requires.5 in
    omega (arith, c.put_arrays-behind.ensures.0, c.put_fields-end.ensures.0)

pub returns : goal.returns
returns c =
    let a = c.args in
    rw c.clear.ensures
    (page-made a.base a.e.minor a.page.now a.target.now c.requires.1 c.requires.5 _ _ _ _ _ _ _ _ _ _
    c.sections-n.ensures.0 c.core_size-size.ensures.0
    c.fields_place.ensures (search rules)
    c.put_sections.ensures c.put_arrays-behind.ensures.0
    c.put_arrays-behind.ensures.1 c.put_fields-end.ensures.0
    c.put_fields-end.ensures.1 c.plat_pointer.ensures
    c.put_words.ensures)
