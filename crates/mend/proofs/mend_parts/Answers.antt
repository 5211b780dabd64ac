use mathlib.Core.Path.{◌≡◌, refl, ◌∙◌}
use Rattle.sections.specs.Page.{platform_at}
use Rattle.mend.specs.Steps.{plat_kept, fields_left}
use Rattle.mend.specs.Mend.{edition_at, mend_changes}
use Rattle.mend.proofs.Parts.{place_same, dropped_told, padding-step, plat-step, section-step}
use borrow.Author.Rules.{rules}
use lib.Dec.{lit≤}
use Rattle.mend.proofs.mend_parts.Goals as goal

pub mend_plat-kept-requires : goal.mend_plat-kept-requires
mend_plat-kept-requires c =
    place_same c.args.base c.args.page.now c.requires.0 c.mend_padding-padding.new.page (search rules)

pub mend_section-dram-requires : goal.mend_section-dram-requires
mend_section-dram-requires c =
    place_same c.args.base c.args.page.now c.requires.0 c.mend_plat-kept.new.page (search rules)

pub mend_section-console-requires : goal.mend_section-console-requires
mend_section-console-requires c =
    place_same c.args.base c.args.page.now c.requires.0 c.mend_section-dram.new.page (search rules)

pub mend_section-ncoh-requires : goal.mend_section-ncoh-requires
mend_section-ncoh-requires c =
    place_same c.args.base c.args.page.now c.requires.0 c.mend_section-console.new.page (search rules)

pub mend_section-coh-requires : goal.mend_section-coh-requires
mend_section-coh-requires c =
    place_same c.args.base c.args.page.now c.requires.0 c.mend_section-ncoh.new.page (search rules)

pub returns : goal.returns
unfolding mend_changes fields_left
returns c =
    let a = c.args in
    let e : a.e.minor ≡ edition_at a.page.now = c.requires.2 ∙ rw c.requires.1 in
    let s = padding-step a.base a.page.now c.requires.0 _ _
    c.mend_padding-padding.ensures.0
    c.mend_padding-padding.ensures.1 in
    let t = plat-step a.base a.page.now c.requires.0 a.e.minor _ _ _ e s.1 c.mend_plat-kept.ensures.0
    c.mend_plat-kept.ensures.1 in
    let u : c.unwrap_or-fields.result ≡ fields_left (plat_kept (edition_at a.page.now) a.base (platform_at a.base a.page.now)) =
    c.unwrap_or-fields.ensures ∙ rw t.0 refl in
    let v = dropped_told _ _ c.is_none-plat.ensures ∙ t.1 in
    let d = section-step a.base a.page.now c.requires.0 a.minor a.e.minor 0 _ _ _ _ (lit≤ tt) c.requires.1 e u t.2
    c.mend_section-dram.ensures.0
    c.mend_section-dram.ensures.1 in
    let f = section-step a.base a.page.now c.requires.0 a.minor a.e.minor 1 _ _ _ _ (lit≤ tt) c.requires.1 e u d.1
    c.mend_section-console.ensures.0 c.mend_section-console.ensures.1 in
    let g = section-step a.base a.page.now c.requires.0 a.minor a.e.minor 2 _ _ _ _ (lit≤ tt) c.requires.1 e u f.1
    c.mend_section-ncoh.ensures.0
    c.mend_section-ncoh.ensures.1 in
    let h = section-step a.base a.page.now c.requires.0 a.minor a.e.minor 3 _ _ _ _ (lit≤ tt) c.requires.1 e u g.1
    c.mend_section-coh.ensures.0 c.mend_section-coh.ensures.1 in
    (rw (s.0, v, d.0, f.0, g.0, h.0), h.1)
