use mathlib.Core.Path.{◌∙◌}
use Rattle.writer_rules.specs.Wrote.{write_lists}
use Rattle.images.proofs.Answers.{wrote-code}
use Rattle.potterbeam.proofs.pbeam_write.Goals as goal

pub returns : goal.returns
returns c =
    let a = c.args in record {
      value = c.wrote_number.ensures ∙ wrote-code _ _ (write_lists a.base a.edition a.dram.now a.console.now a.ncoh.now
          a.coh.now a.fields.now a.page.now) c.write.ensures.result_after;
      page_after = c.write.ensures.page_after;
      yes = c.write.ensures.yes;
    }
