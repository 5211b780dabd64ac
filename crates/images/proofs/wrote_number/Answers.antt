use Rattle.std.proofs.Common.{Err}
use mathlib.Core.Path.{◌≡◌, sym, ap, ◌∙◌}
use Rattle.writer_rules.specs.declared.WriteError.TheVariants.{Place, Edition, BadEntry, SectionAfterEdition, TooLong}
use Rattle.images.specs.Image.{wrote_number}
use Rattle.images.proofs.wrote_number.Goals as goal

pub returns-in-Ok : goal.returns-in-Ok
unfolding wrote_number
returns-in-Ok c = sym (ap wrote_number c.in-Ok.is)

pub returns-in-Err-Place : goal.returns-in-Err-Place
unfolding wrote_number
returns-in-Err-Place c =
    let e : c.in-Err-Place.field-0 ≡ Place = rw c.in-Err-Place.is at c.in-Err-Place.field-0-is in
    sym (ap wrote_number c.in-Err-Place.is ∙ ap (λ x. wrote_number (Err x)) e)

pub returns-in-Err-Edition : goal.returns-in-Err-Edition
unfolding wrote_number
returns-in-Err-Edition c =
    let e : c.in-Err-Edition.field-0 ≡ Edition = rw c.in-Err-Edition.is at c.in-Err-Edition.field-0-is in
    sym (ap wrote_number c.in-Err-Edition.is ∙ ap (λ x. wrote_number (Err x)) e)

pub returns-in-Err-BadEntry : goal.returns-in-Err-BadEntry
unfolding wrote_number
returns-in-Err-BadEntry c =
    let e : c.in-Err-BadEntry.field-0 ≡ BadEntry = rw c.in-Err-BadEntry.is at c.in-Err-BadEntry.field-0-is in
    sym (ap wrote_number c.in-Err-BadEntry.is ∙ ap (λ x. wrote_number (Err x)) e)

pub returns-in-Err-SectionAfterEdition : goal.returns-in-Err-SectionAfterEdition
unfolding wrote_number
returns-in-Err-SectionAfterEdition c =
    let e : c.in-Err-SectionAfterEdition.field-0 ≡ SectionAfterEdition = rw c.in-Err-SectionAfterEdition.is at c.in-Err-SectionAfterEdition.field-0-is in
    sym (ap wrote_number c.in-Err-SectionAfterEdition.is ∙ ap (λ x. wrote_number (Err x)) e)

pub returns-in-Err-TooLong : goal.returns-in-Err-TooLong
unfolding wrote_number
returns-in-Err-TooLong c =
    let e : c.in-Err-TooLong.field-0 ≡ TooLong = rw c.in-Err-TooLong.is at c.in-Err-TooLong.field-0-is in
    sym (ap wrote_number c.in-Err-TooLong.is ∙ ap (λ x. wrote_number (Err x)) e)
