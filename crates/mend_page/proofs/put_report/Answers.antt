use mathlib.Core.Path.{sym, ap}
use Rattle.mend_page.specs.Text.{report_text}
use Rattle.mend_page.proofs.Laws.{report-put}
use borrow.Author.Rules.{rules}
use Rattle.mend_page.proofs.put_report.Goals as goal

pub returns-in-Ok : goal.returns-in-Ok
unfolding report_text
returns-in-Ok c =
    let told = report-put _ _ c.args.out.now (sym (ap report_text c.in-Ok.is))
    c.put_changes.ensures (search rules) in record { prefix_len = told.0; value = told.1 }

pub returns-in-Err : goal.returns-in-Err
unfolding report_text
returns-in-Err c =
    let told = report-put _ _ c.args.out.now (sym (ap report_text c.in-Err.is))
    c.put_refused.ensures (search rules) in record { prefix_len = told.0; value = told.1 }
