use mathlib.Core.Path.{sym, ap, ◌∙◌}
use mathlib.Core.Logic.{⊎_elim}
use Rattle.reader.specs.declared.Section.{Section}
use Rattle.words.specs.Word.{no_span}
use Rattle.lookup.specs.Lookup.{span_of}
use Rattle.lookup.proofs.place_in.Goals as goal

pub returns-in-Absent : goal.returns-in-Absent
unfolding span_of no_span
returns-in-Absent c =
    let a = c.args in
    let of = λ (s : Section). span_of a.k s a.room in
    ⊎_elim (λ e. sym (ap of e)) (λ e. sym (ap of e)) c.in-Absent.is
