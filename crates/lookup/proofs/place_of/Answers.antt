use mathlib.Core.Path.{◌≡◌, ap, ◌∙◌}
use lib.ListN.{length}
use Rattle.words.specs.Word.{spanned}
use Rattle.reader.specs.Reading.{section_of}
use Rattle.lookup.specs.Lookup.{span_of}
use Rattle.lookup.proofs.Lookups.{place_view}
use Rattle.lookup.proofs.place_of.Goals as goal

pub returns-clause-page_value : goal.returns-clause-page_value
returns-clause-page_value c =
    let a = c.args in
    let e : c.place_in.result ≡ span_of a.k (section_of a.view a.k) (length a.page.now) = c.place_in.ensures ∙
    ap (λ s. span_of a.k s (length a.page.now)) c.section_of.ensures in
    ap (λ p. spanned p a.page.now) e ∙ place_view a.page.now a.view a.k
