use mathlib.Core.Path.{◌≡◌, ap}
use Rattle.entries.specs.Entry.{words_per_entry}
use Rattle.reader.specs.Answer.{entry_word}
use Rattle.reader.specs.Reading.{shown_as}
use Rattle.text_lines.specs.Text.{word_text, part_text, entry_text}
use Rattle.words.specs.Word.{joined}
use Rattle.text_lines.proofs.Lay.{wrote_none, wrote_then, wrote-same, wrote-more}
use Rattle.text_lines.proofs.Parts.{word-shown}
use borrow.Author.Rules.{rules}
use native.Mathlib.Omega.{arith}
use Rattle.text.proofs.put_entry.Goals as goal

pub loop-j-init : goal.loop-j-init
unfolding joined
loop-j-init c = let a = c.args in (search rules, wrote_none a.out.now)

pub loop-j-preserved : goal.loop-j-preserved
unfolding part_text
loop-j-preserved c =
    let a = c.args in
    let l = c.loop-j in
    let x = shown_as a.minor a.k a.section a.page.now in
    let e : c.word_in-w.result ≡ entry_word a.k a.i l.j x = word-shown a.minor a.k a.i
    l.j a.section a.page.now _ c.word_in-w.ensures in (
      search rules,
      wrote-more (part_text a.k x a.i) l.j (search rules) l.invariant.1
          (wrote_then (omega (arith, l.invariant.1.same)) c.put_gap.ensures
          (wrote-same (ap (word_text a.k l.j) e) c.put_word.ensures)),
    )

pub returns : goal.returns
unfolding entry_text
returns c =
    let l = c.loop-j in
    let e : l.j ≡ words_per_entry c.args.k = omega arith in
    wrote_then (search rules) (rw e at l.invariant.1) c.put_end.ensures
