use mathlib.Core.Path.{refl}
use Rattle.codes.specs.declared.Code.TheVariants.{Unk, Inval}
use Rattle.token_rules.specs.Token.{start_code, begin_of}
use Rattle.codes.proofs.Gates.{stops, goes}
use Rattle.token_rules.proofs.Tokens.{start-empty, start-again, begin-again, next-idle, next-empty, next-other, next-ok, begin-next}
use borrow.Author.Rules.{rules}
use Rattle.token.proofs.start_of.Goals as goal

pub returns-then-len-eq0 : goal.returns-then-len-eq0
returns-then-len-eq0 c =
    let a = c.args in
    stops (start_code a.session a.csize a.len) (begin_of a.session a.csize) Unk
    (start-empty a.session a.csize a.len (search rules) (search rules)) refl

pub returns-then-csize-ne0 : goal.returns-then-csize-ne0
returns-then-csize-ne0 c =
    let a = c.args in
    goes (start_code a.session a.csize a.len) (begin_of a.session a.csize) 0
    (start-again a.session a.csize a.len (search rules) (search rules))
    (begin-again a.session a.csize a.len (search rules))

pub returns-in_default : goal.returns-in_default
returns-in_default c =
    let a = c.args in
    stops (start_code a.session a.csize a.len) (begin_of a.session a.csize) Inval
    (next-idle a.session a.csize a.len (search rules) c.in_default.is) refl

pub returns-then-len-eq0-2 : goal.returns-then-len-eq0-2
returns-then-len-eq0-2 c =
    let a = c.args in
    stops (start_code a.session a.csize a.len) (begin_of a.session a.csize) Unk
    (next-empty a.session a.csize a.len (search rules) c.in-Sending.whole c.in-Sending.sent c.in-Sending.is (search rules)) refl

pub returns-then-len-whole : goal.returns-then-len-whole
returns-then-len-whole c =
    let a = c.args in
    stops (start_code a.session a.csize a.len) (begin_of a.session a.csize) Unk
    (next-other a.session a.csize a.len (search rules) c.in-Sending.whole c.in-Sending.sent c.in-Sending.is (search rules) (search rules)) refl

pub returns : goal.returns
returns c =
    let a = c.args in
    goes (start_code a.session a.csize a.len) (begin_of a.session a.csize) _
    (next-ok a.session a.csize a.len (search rules) c.in-Sending.whole c.in-Sending.sent c.in-Sending.is (search rules) (search rules))
    (begin-next a.session a.csize a.len (search rules) c.in-Sending.whole c.in-Sending.sent c.in-Sending.is)
