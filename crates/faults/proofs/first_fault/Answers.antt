use Rattle.std.proofs.Common.{length, sym, ◌∙◌, rules, eq-eqb, ne_eqb}
use Rattle.faults.specs.Faults.{unless, fault_of}
use Rattle.faults.proofs.Told.{told-rules}
use Rattle.faults.proofs.Theorems.{numbered}
use Rattle.faults.proofs.first_fault.Goals as goal

pub returns-then-page-ne-PAGE_LEN : goal.returns-then-page-ne-PAGE_LEN
unfolding unless fault_of
returns-then-page-ne-PAGE_LEN c =
    let a = c.args in
    let told = numbered a.edition a.base a.page.now _
    (simp (ne_eqb (length a.page.now) 4096 (search rules)) c.found_at.ensures) in record { value = told.0; result_value = told.1 }

pub returns-then-not-place_ok : goal.returns-then-not-place_ok
unfolding unless fault_of
returns-then-not-place_ok c =
    let a = c.args in
    let told = numbered a.edition a.base a.page.now _
    (simp (
      eq-eqb (length a.page.now) 4096 (search rules),
      sym c.place_ok.ensures ∙ c.if-not-place_ok.true,
    ) c.found_at-then-not-place_ok.ensures) in record { value = told.0; result_value = told.1 }

pub returns-then-not-is_edition : goal.returns-then-not-is_edition
unfolding unless fault_of
returns-then-not-is_edition c =
    let a = c.args in
    let told = numbered a.edition a.base a.page.now _
    (simp (
      eq-eqb (length a.page.now) 4096 (search rules),
      sym c.place_ok.ensures ∙ c.if-not-place_ok.false,
      sym c.is_edition.ensures ∙ c.if-not-is_edition.true,
    ) c.found_at-then-not-is_edition.ensures) in record { value = told.0; result_value = told.1 }

pub returns-then-not-is_accepted : goal.returns-then-not-is_accepted
unfolding unless fault_of
returns-then-not-is_accepted c =
    let a = c.args in
    let told = numbered a.edition a.base a.page.now _
    (rw (
      eq-eqb (length a.page.now) 4096 (search rules),
      sym c.place_ok.ensures ∙
          c.if-not-place_ok.false,
      sym c.is_edition.ensures ∙
          c.if-not-is_edition.false,
      ← c.version_at-version.ensures,
      sym c.is_accepted.ensures ∙ c.if-not-is_accepted.true,
    ) c.found_at-then-not-is_accepted.ensures) in record { value = told.0; result_value = told.1 }

pub rules_fault-requires : goal.rules_fault-requires
rules_fault-requires c =
    sym c.place_ok.ensures ∙ c.if-not-place_ok.false

pub returns : goal.returns
returns c =
    let a = c.args in
    let told = numbered a.edition a.base a.page.now _
    (told-rules a.edition a.base a.page.now (search rules) (sym c.place_ok.ensures ∙ c.if-not-place_ok.false)
    (sym c.is_edition.ensures ∙
    c.if-not-is_edition.false)
    (rw (← c.version_at-version.ensures)
    (sym c.is_accepted.ensures ∙ c.if-not-is_accepted.false))
    _ _ (c.minor-minor.ensures.0 ∙ rw c.version_at-version.ensures)
    c.edition_read.ensures _ c.rules_fault.ensures) in record { value = told.0; result_value = told.1 }
