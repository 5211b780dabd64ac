use Rattle.std.proofs.Common.{◌≡◌, ◌+◌, ◌*◌, sym, ◌∙◌, arith, rules}
use Rattle.words.specs.Tests.{both, either}
use Rattle.words.proofs.Read.{word-lent}
use Rattle.entries.specs.Entry.{flags_ok}
use Rattle.entries.specs.Fast.{console_clear}
use Rattle.entries.proofs.Entries.{entries_none}
use Rattle.entries.proofs.Fast.{console-step}
use Rattle.entries.proofs.consoles_ok.Goals as goal

pub loop-i-init : goal.loop-i-init
unfolding console_clear flags_ok both either
loop-i-init c =
    let a = c.args in
    (search rules, search rules, rw c.none-bits.ensures (sym (entries_none a.minor 1 a.at a.page.now)))

pub loop-i-preserved : goal.loop-i-preserved
loop-i-preserved c =
    let a = c.args in
    let l = c.loop-i in (
      search rules,
      search rules,
      console-step a.minor a.at l.i a.page.now _ _ _ _
          (c.whole_word-base.ensures ∙ word-lent l.from 48 0 (a.at + 48 * l.i) a.page.now (omega arith)
          (omega arith) (omega arith)) (c.whole_word-pages.ensures ∙
          word-lent l.from 48 8 (a.at + 48 * l.i + 8) a.page.now (omega arith) (omega arith) (omega arith))
          (c.whole_word.ensures ∙ word-lent l.from 48 40 (a.at + 48 * l.i + 40) a.page.now (omega arith)
          (omega arith) (omega arith)) _ l.invariant.2 c.with_console-bits.ensures,
    )

pub returns : goal.returns
returns c =
    let a = c.args in
    let l = c.loop-i in
    let e : l.i ≡ a.count = omega arith in
    c.consoles_clear.ensures ∙ l.invariant.2 ∙ rw e
