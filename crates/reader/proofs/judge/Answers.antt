use mathlib.Core.Bool.{true}
use mathlib.Core.Path.{◌≡◌, sym, ap, ◌∙◌}
use Rattle.versions.specs.Version.{minor_of, version_ok}
use Rattle.sections.specs.Page.{version_at}
use Rattle.reader.specs.Fast.{verdict_of}
use Rattle.reader.proofs.Whole.{read-place, read-edition, read-version, told-rules, told-fine, judged-refused, judged-fine}
use Rattle.reader.proofs.judge.Goals as goal

pub returns-then-not-place_ok : goal.returns-then-not-place_ok
unfolding verdict_of
returns-then-not-place_ok c =
    let a = c.args in
    let told = judged-refused a.edition a.base a.page.now _ _
    (ap verdict_of (read-place a.edition a.base a.page.now (sym c.place_ok.ensures ∙ c.if-not-place_ok.true))) in record { value = told.0; result_value = told.1.0; by_index = told.1.1 }

pub returns-then-not-is_edition : goal.returns-then-not-is_edition
unfolding verdict_of
returns-then-not-is_edition c =
    let a = c.args in
    let p = sym c.place_ok.ensures ∙ c.if-not-place_ok.false in
    let told = judged-refused a.edition a.base a.page.now _ _
    (ap verdict_of (read-edition a.edition a.base a.page.now p
    (sym c.is_edition.ensures ∙ c.if-not-is_edition.true))) in record { value = told.0; result_value = told.1.0; by_index = told.1.1 }

pub returns-then-not-is_accepted : goal.returns-then-not-is_accepted
unfolding verdict_of
returns-then-not-is_accepted c =
    let a = c.args in
    let p = sym c.place_ok.ensures ∙
    c.if-not-place_ok.false in
    let q = sym c.is_edition.ensures ∙ c.if-not-is_edition.false in
    let told = judged-refused a.edition a.base a.page.now _ _
    (ap verdict_of (read-version a.edition a.base a.page.now p q
    (rw (← c.version_at-version.ensures) (sym c.is_accepted.ensures ∙ c.if-not-is_accepted.true)))) in record { value = told.0; result_value = told.1.0; by_index = told.1.1 }

pub returns-then-not-judge : goal.returns-then-not-judge
returns-then-not-judge c =
    let a = c.args in
    let p = sym c.place_ok.ensures ∙ c.if-not-place_ok.false in
    let q = sym c.is_edition.ensures ∙ c.if-not-is_edition.false in
    let v : version_ok (version_at a.page.now) ≡ true = rw
    (← c.version_at-version.ensures)
    (sym c.is_accepted.ensures ∙
    c.if-not-is_accepted.false) in
    let m : c.minor-minor.result ≡ minor_of
    (version_at a.page.now) = c.minor-minor.ensures.0 ∙
    rw c.version_at-version.ensures in
    let told = judged-refused a.edition a.base a.page.now _ _
    (told-rules a.edition a.base a.page.now p q v _ _ m c.edition_read-e.ensures _
    c.judge.ensures.value (c.if-not-judge.true)) in record { value = told.0; result_value = told.1.0; by_index = told.1.1 }

pub returns : goal.returns
returns c =
    let a = c.args in
    let p = sym c.place_ok.ensures ∙ c.if-not-place_ok.false in
    let q = sym c.is_edition.ensures ∙ c.if-not-is_edition.false in
    let v : version_ok (version_at a.page.now) ≡ true = rw
    (← c.version_at-version.ensures)
    (sym c.is_accepted.ensures ∙
    c.if-not-is_accepted.false) in
    let m : c.minor-minor.result ≡ minor_of
    (version_at a.page.now) = c.minor-minor.ensures.0 ∙
    rw c.version_at-version.ensures in
    let told = judged-fine a.edition a.base a.page.now _ _
    (told-fine a.edition a.base a.page.now p q v _ _ m c.edition_read-e.ensures _
    c.judge.ensures.value (c.if-not-judge.false))
    (c.judge.ensures.copied (c.if-not-judge.false)) in record { value = told.0; result_value = told.1.0; by_index = told.1.1 }
