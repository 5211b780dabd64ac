use mathlib.Core.Path.{sym}
use Rattle.token_rules.proofs.Tokens.{send-none, send-last, send-more}
use borrow.Author.Rules.{rules}
use Rattle.token.proofs.send.Goals as goal

pub returns-then-len-from : goal.returns-then-len-from
returns-then-len-from c =
    let a = c.args in
    rw (c.ok.ensures, c.idle.ensures)
    (sym (send-none a.at a.token.now a.from a.size a.page.now (search rules)))

pub returns-then-left-size : goal.returns-then-left-size
returns-then-left-size c =
    let a = c.args in
    rw (c.ok-then-left-size.ensures, c.idle-then-left-size.ensures, c.put_hunk.ensures)
    (sym (send-last a.at a.token.now a.from a.size a.page.now (search rules)))

pub returns : goal.returns
returns c =
    let a = c.args in
    rw (c.ok-2.ensures, c.put_hunk-2.ensures)
    (sym (send-more a.at a.token.now a.from a.size a.page.now (search rules)))
