use Rattle.std.proofs.Common.{Ok}
use mathlib.Core.Bool.{true, false}
use mathlib.Core.Path.{◌≡◌, sym, ap, ◌∙◌}
use lib.ListN.{length}
use Rattle.versions.specs.Version.{version_ok}
use Rattle.sections.specs.Page.{place_ok, version_at}
use Rattle.mend.specs.Mend.{Mended}
use Rattle.mend.proofs.Parts.{mend-told, mend-place, mend-version, mend-done}
use Rattle.mend.proofs.mend.Goals as goal

pub returns-then-not-place_ok : goal.returns-then-not-place_ok
returns-then-not-place_ok c =
    let a = c.args in
    let told = mend-told a.base a.page.now _ _ (mend-place a.base a.page.now (sym c.place_ok.ensures ∙ c.if-not-place_ok.true)) in record { value = told.0; page_after = told.1.0; result_value = told.1.1 }

pub returns-then-not-is_accepted : goal.returns-then-not-is_accepted
returns-then-not-is_accepted c =
    let a = c.args in
    let p : place_ok a.base (length a.page.now) ≡ true = sym c.place_ok.ensures ∙
    c.if-not-place_ok.false in
    let v : version_ok (version_at a.page.now) ≡ false = rw (← c.version_at-version.ensures) (sym c.is_accepted.ensures ∙ c.if-not-is_accepted.true) in
    let told = mend-told a.base a.page.now _ _ (mend-version a.base a.page.now p v) in record { value = told.0; page_after = told.1.0; result_value = told.1.1 }

pub mend_parts-requires : goal.mend_parts-requires
mend_parts-requires c =
    let a = c.args in
    let p : place_ok a.base (length a.page.now) ≡ true = sym c.place_ok.ensures ∙
    c.if-not-place_ok.false in
    (p, c.minor-minor.ensures.0 ∙ rw c.version_at-version.ensures, c.edition_read-e.ensures)

pub returns : goal.returns
returns c =
    let a = c.args in
    let p : place_ok a.base (length a.page.now) ≡ true = sym c.place_ok.ensures ∙
    c.if-not-place_ok.false in
    let v : version_ok (version_at a.page.now) ≡ true = rw (← c.version_at-version.ensures)
    (sym c.is_accepted.ensures ∙ c.if-not-is_accepted.false) in
    let d = mend-done a.base a.page.now p v in
    let told = mend-told a.base a.page.now _ _ (ap {B = Mended} Ok c.mend_parts.ensures.0 ∙ d.0, c.mend_parts.ensures.1 ∙ d.1) in record { value = told.0; page_after = told.1.0; result_value = told.1.1 }
