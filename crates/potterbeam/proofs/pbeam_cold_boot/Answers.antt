use mir.Val.{to_z, of_z}
use mir.Syntax.{w32}
use mathlib.Core.Path.{◌≡◌}
use Rattle.images.specs.Image.{record_of}
use Rattle.export_rules.proofs.Left.{told-cold}
use borrow.Author.Rules.{rules}
use Rattle.potterbeam.proofs.pbeam_cold_boot.Goals as goal

pub returns : goal.returns
returns c =
    let a = c.args in
    let q : to_z w32 (of_z w32 c.number.result) ≡ c.number.result = search rules in
    let told = told-cold (record_of a.image.now) _ a.x0 a.x1 a.x2 a.x3 a.maxcpus a.kept a.page.now
    c.record_of.ensures c.cold-booted.result.code c.cold-booted.result.next
    c.cold-booted.ensures _ _ q c.number.ensures _ c.record_words.ensures in record { value = told.0; image_after = told.1 }
