use mathlib.Core.Path.{sym, ap}
use lib.Dec.{lit≤}
use Rattle.mend_page.specs.Text.{refusal_text}
use Rattle.mend_page.proofs.Laws.{text-put}
use Rattle.mend_page.proofs.put_refused.Goals as goal

pub returns-in-Place : goal.returns-in-Place
unfolding refusal_text
returns-in-Place c =
    let a = c.args in
    let p = c.put.ensures in
    text-put _ _ a.out.now (sym (ap refusal_text c.in-Place.is)) (lit≤ tt) p.0
    p.1

pub returns-in-Version : goal.returns-in-Version
unfolding refusal_text
returns-in-Version c =
    let a = c.args in
    let p = c.put-in-Version.ensures in
    text-put _ _ a.out.now (sym (ap refusal_text c.in-Version.is)) (lit≤ tt) p.0
    p.1

pub returns-in-Rules : goal.returns-in-Rules
unfolding refusal_text
returns-in-Rules c =
    let a = c.args in
    let p = c.put-in-Rules.ensures in
    text-put _ _ a.out.now (sym (ap refusal_text c.in-Rules.is)) (lit≤ tt) p.0
    p.1
