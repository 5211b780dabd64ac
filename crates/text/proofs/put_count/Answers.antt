use mathlib.Core.Path.{◌≡◌, ◌∙◌}
use Rattle.reader.specs.Answer.{entry_count}
use Rattle.reader.specs.Reading.{shown_as}
use Rattle.lookup.proofs.Lookups.{count-shown}
use Rattle.text_lines.specs.Text.{count_text}
use Rattle.text_lines.proofs.Lay.{wrote_then}
use borrow.Author.Rules.{rules}
use Rattle.text.proofs.put_count.Goals as goal

pub returns : goal.returns
unfolding count_text
returns c =
    let a = c.args in
    let n = c.count_in-n in
    let e : n.result ≡ entry_count a.k (shown_as a.minor a.k a.section a.page.now) = n.ensures ∙
    count-shown a.minor a.k a.section a.page.now in
    rw (← e) (wrote_then (search rules) (wrote_then (search rules) c.put_decimal.ensures
    c.put_end.ensures) c.put_entries.ensures)
