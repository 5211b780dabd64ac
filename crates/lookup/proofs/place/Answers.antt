use mathlib.Core.Path.{◌≡◌, ap, ◌∙◌}
use lib.ListN.{length}
use Rattle.words.specs.Word.{spanned}
use Rattle.reader.specs.Reading.{reading_of}
use Rattle.reader.specs.Fast.{section_read}
use Rattle.lookup.specs.Lookup.{span_of}
use Rattle.lookup.proofs.Lookups.{place_read}
use Rattle.lookup.proofs.place.Goals as goal

pub returns : goal.returns
returns c =
    let a = c.args in
    let q = place_read a.edition a.base a.k a.page.now in
    let e : c.place_in.result ≡ span_of a.k (section_read (reading_of a.edition a.base a.page.now) a.k)
    (length a.page.now) = c.place_in.ensures ∙ ap (λ s. span_of a.k s (length a.page.now))
    c.section_read.ensures.value in
    record { value = e ∙ q.0; page_value = ap (λ p. spanned p a.page.now) e ∙ q.1 }
