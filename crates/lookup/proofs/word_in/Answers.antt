use mathlib.Core.Path.{sym, ap, ◌∙◌}
use mathlib.Core.Logic.{⊎_elim}
use Rattle.reader.specs.declared.Section.{Section}
use Rattle.reader.specs.Answer.{entry_word}
use Rattle.reader.specs.Reading.{shown_as}
use Rattle.lookup.specs.Fast.{word_of}
use Rattle.lookup.proofs.Lookups.{word-hidden, told-word}
use Rattle.lookup.proofs.word_in.Goals as goal

pub returns-then-is_hidden : goal.returns-then-is_hidden
returns-then-is_hidden c =
    let a = c.args in
    word-hidden a.minor a.k a.i a.j a.section a.page.now (sym c.is_hidden.ensures ∙ c.if-is_hidden.true)

pub returns-in-Absent : goal.returns-in-Absent
unfolding word_of shown_as entry_word
returns-in-Absent c =
    let a = c.args in
    let of = λ (s : Section). word_of a.minor a.k a.i a.j s a.page.now in
    ⊎_elim (λ e. sym (ap of e)) (λ e. sym (ap of e)) c.in-Absent.is

pub returns-in-Entries : goal.returns-in-Entries
returns-in-Entries c =
    let a = c.args in
    told-word a.minor a.k a.i a.j a.section _ a.page.now _
    c.is_hidden.ensures c.if-is_hidden.false
    c.in-Entries.is _ c.word_at.ensures
