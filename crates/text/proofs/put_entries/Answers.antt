use mathlib.Core.Path.{◌≡◌}
use Rattle.reader.specs.Reading.{shown_as}
use Rattle.text_lines.specs.Text.{entry_text}
use Rattle.words.specs.Word.{joined}
use Rattle.text_lines.proofs.Lay.{wrote_none, wrote-more}
use borrow.Author.Rules.{rules}
use native.Mathlib.Omega.{arith}
use Rattle.text.proofs.put_entries.Goals as goal

pub loop-i-init : goal.loop-i-init
unfolding joined
loop-i-init c = let a = c.args in (search rules, wrote_none a.out.now)

pub loop-i-preserved : goal.loop-i-preserved
loop-i-preserved c =
    let a = c.args in
    let l = c.loop-i in (
      search rules,
      wrote-more (entry_text a.k (shown_as a.minor a.k a.section a.page.now)) l.i (search rules) l.invariant.1
          c.put_entry.ensures,
    )

pub returns : goal.returns
returns c = let l = c.loop-i in let e : l.i ≡ c.args.n = omega arith in rw e at l.invariant.1
