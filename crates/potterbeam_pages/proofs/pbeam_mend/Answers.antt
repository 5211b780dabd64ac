use mathlib.Core.Path.{◌≡◌, ap, ◌∙◌}
use mir.Val.{to_z, of_z}
use mir.Syntax.{w32}
use Rattle.mend.specs.Report.{mended_number, report_words}
use borrow.Author.Rules.{rules}
use Rattle.potterbeam_pages.proofs.pbeam_mend.Goals as goal

pub returns : goal.returns
returns c =
    let q : to_z w32 (of_z w32 c.number.result) ≡ c.number.result = search rules in
    record {
      value = q ∙ c.number.ensures ∙ ap mended_number c.mend-mended.ensures.value;
      changed_after = c.report_words.ensures ∙ ap report_words c.mend-mended.ensures.value;
      page_after = c.mend-mended.ensures.page_after;
    }
