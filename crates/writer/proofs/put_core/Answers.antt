use Rattle.std.proofs.Common.{ℕ, ◌+◌, ap, rules}
use Rattle.writer_checks.specs.declared.Totals.{Totals}
use Rattle.writer_checks.specs.Description.{four_lists, description_of}
use Rattle.writer_checks.specs.Fast.{totals_of}
use Rattle.writer.proofs.Pages.{core-law}
use Rattle.writer.proofs.put_core.Goals as goal

pub put_section-second-requires : goal.put_section-second-requires
unfolding totals_of
put_section-second-requires c =
    (search rules, ap (λ (t : Totals). t.dram) c.requires.3)

pub put_section-third-requires : goal.put_section-third-requires
unfolding totals_of
put_section-third-requires c =
    (search rules, ap (λ (t : Totals). t.console) c.requires.3)

pub put_section-fourth-requires : goal.put_section-fourth-requires
unfolding totals_of
put_section-fourth-requires c =
    (search rules, ap (λ (t : Totals). t.ncoh) c.requires.3)

pub put_section-requires : goal.put_section-requires
unfolding totals_of
put_section-requires c =
    let p = c.requires in
    (search rules, ap (λ (t : Totals). t.coh) p.3)

pub returns : goal.returns
unfolding description_of four_lists
returns c =
    let a = c.args in
    core-law a.base a.e.minor (description_of a.lists.dram.now a.lists.console.now a.lists.ncoh.now a.lists.coh.now a.fields.now)
    a.page.now c.requires.1 _ _ _ _ _ _ _ _ _ _
    c.plat_pointer-plat.ensures
    c.put_words.ensures (ap (λ (x : ℕ). a.base + x) c.core_size.ensures.0)
    c.put_section-second.ensures.1
    c.put_section-second.ensures.0 c.put_section-third.ensures.1
    c.put_section-third.ensures.0
    c.put_section-fourth.ensures.1
    c.put_section-fourth.ensures.0 c.put_section.ensures.1
