use mathlib.Core.Path.{◌≡◌, ◌∙◌}
use native.Mathlib.Omega.{arith}
use lib.ListN.{length}
use Rattle.vector_io.proofs.Filling.{read_none, read_more, read_all, read-not}
use borrow.Author.Rules.{rules}
use Rattle.vector_io.proofs.read_words.Goals as goal

pub returns-then-list-gt600 : goal.returns-then-list-gt600
returns-then-list-gt600 c = let a = c.args in read-not a.bytes.now a.list.now (search rules)

pub loop-i-init : goal.loop-i-init
loop-i-init c = let a = c.args in (search rules, search rules, read_none a.bytes.now a.list.now)

pub loop-i-preserved : goal.loop-i-preserved
loop-i-preserved c =
    let l = c.loop-i in
    (search rules, search rules, rw (l.invariant.2, c.word_at.ensures) (read_more _ _ l.i (omega arith)))

pub returns : goal.returns
returns c =
    let a = c.args in
    let l = c.loop-i in
    let e : l.i ≡ length a.list.now = omega arith in
    l.invariant.2 ∙ rw e (read_all a.bytes.now a.list.now (omega arith))
