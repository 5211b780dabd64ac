use mathlib.Core.Path.{refl}
use Rattle.std.proofs.lemmas.Result.{err_from_is_err_and}
use Rattle.token.proofs.Told.{told-outside, told-unlisted, told-small, told-buffer}
use borrow.Author.Rules.{rules}
use Rattle.token.proofs.buffer_of.Goals as goal

pub returns-in_err-at : goal.returns-in_err-at
returns-in_err-at c =
    let a = c.args in
    let p = err_from_is_err_and c.from_residual.result c.from_residual.ensures.1 in
    rw (p.1, p.2) (told-outside a.state a.len a.busy a.pa a.size a.csize _
    c.code_if-first.ensures.value _ c.in_err-at.ensures.value _ refl)

pub returns-then-not-is_listed : goal.returns-then-not-is_listed
returns-then-not-is_listed c =
    let a = c.args in
    told-unlisted a.state a.len a.busy a.pa a.size a.csize _
    c.code_if-first.ensures.value _
    c.in_ok-at.ensures.value
    _ refl _ c.is_listed.ensures (c.if-not-is_listed.true)

pub returns-then-size-csize : goal.returns-then-size-csize
returns-then-size-csize c =
    let a = c.args in
    told-small a.state a.len a.busy a.pa a.size a.csize _
    c.code_if-first.ensures.value _
    c.in_ok-at.ensures.value _ refl _
    c.is_listed.ensures (c.if-not-is_listed.false) (search rules)

pub returns : goal.returns
returns c =
    let a = c.args in
    told-buffer a.state a.len a.busy a.pa a.size a.csize _
    c.code_if-first.ensures.value _
    c.in_ok-at.ensures.value _ refl _
    c.is_listed.ensures (c.if-not-is_listed.false) (search rules)
