use mathlib.Core.Path.{sym, ap}
use Rattle.mend_page.specs.Text.{said_text}
use Rattle.mend_page.proofs.Laws.{line-put}
use borrow.Author.Rules.{rules}
use Rattle.mend_page.proofs.put_line.Goals as goal

pub returns-then-changed : goal.returns-then-changed
unfolding said_text
returns-then-changed c =
    let a = c.args in
    let p = c.put-to.ensures in
    let q = c.put.ensures in
    line-put a.changed a.title.now _ a.out.now (sym (ap said_text c.if-changed.true))
    (search rules) p.0 p.1 q.0 q.1

pub returns : goal.returns
unfolding said_text
returns c =
    let a = c.args in
    let p = c.put-to.ensures in
    let q = c.put-2.ensures in
    line-put a.changed a.title.now _ a.out.now (sym (ap said_text c.if-changed.false))
    (search rules) p.0 p.1 q.0 q.1
