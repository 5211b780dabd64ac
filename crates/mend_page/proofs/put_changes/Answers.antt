use mathlib.Core.Path.{◌∙◌}
use mathlib.Core.List.{◌++◌}
use native.Mathlib.Nat.{zero-add}
use Rattle.mend_page.specs.Text.{line_text, changes_text, padding_title, plat_title, dram_title, console_title, ncoh_title, coh_title}
use Rattle.mend_page.proofs.Laws.{text-more}
use borrow.Author.Rules.{rules}
use Rattle.mend_page.proofs.put_changes.Goals as goal

pub returns : goal.returns
unfolding changes_text padding_title plat_title dram_title console_title ncoh_title coh_title
returns c =
    let a = c.args in
    let m = a.changes in
    let e1 = c.put_line-plat.ensures in
    let e2 = c.put_line-dram.ensures in
    let e3 = c.put_line-console.ensures in
    let e4 = c.put_line-ncoh.ensures in
    let e5 = c.put_line-coh.ensures in
    let e6 = c.put_line.ensures in
    let s2 = text-more (line_text padding_title m.padding) (line_text plat_title m.plat) a.out.now (e1.0 ∙ zero-add _) e1.1
    e2.0 e2.1 in
    let s3 = text-more (line_text padding_title m.padding ++ line_text plat_title m.plat) (line_text dram_title m.dram) a.out.now
    s2.0 s2.1 e3.0 e3.1 in
    let s4 = text-more (line_text padding_title m.padding ++ line_text plat_title m.plat ++ line_text dram_title m.dram)
    (line_text console_title m.console) a.out.now s3.0 s3.1 e4.0 e4.1 in
    let s5 = text-more (line_text padding_title m.padding ++ line_text plat_title m.plat ++ line_text dram_title m.dram ++
    line_text console_title m.console) (line_text ncoh_title m.ncoh) a.out.now s4.0 s4.1 e5.0 e5.1 in
    let s6 = text-more (line_text padding_title m.padding ++ line_text plat_title m.plat ++ line_text dram_title m.dram ++
    line_text console_title m.console ++ line_text ncoh_title m.ncoh) (line_text coh_title m.coh) a.out.now s5.0 s5.1
    e6.0 e6.1 in
    (s6.0, s6.1, search rules)
