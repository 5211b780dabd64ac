use mathlib.Core.Path.{ap, ◌∙◌}
use Rattle.words.specs.Word.{span_start, on_from}
use Rattle.words.specs.declared.Span.{Span}
use Rattle.reader.specs.Reading.{section_of}
use Rattle.lookup.proofs.Lookups.{section-starts}
use Rattle.lookup.proofs.array_of.Goals as goal

pub returns-clause-ref_ptr_value : goal.returns-clause-ref_ptr_value
returns-clause-ref_ptr_value c =
    let a = c.args in
    c.part_of.ensures.ref_ptr_value ∙ ap (λ (p : Span). on_from a.page.ref_ptr (span_start p a.page.now)) c.place_of.ensures.value ∙
    ap (on_from a.page.ref_ptr) (section-starts a.k (section_of a.view a.k) a.page.now)
