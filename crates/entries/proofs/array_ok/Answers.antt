use Rattle.std.proofs.Common.{◌+◌, ◌-◌, ◌<◌, ◌≤◌, length, sym, ◌∙◌, arith, le-leb, leb-false, leb-true}
use borrow.Author.Tests.{lt-leb}
use Rattle.words.specs.Tests.{both}
use Rattle.entries.specs.Entry.{size}
use Rattle.entries.proofs.array_ok.Goals as goal

pub returns-then-page-at : goal.returns-then-page-at
unfolding both
returns-then-page-at c = let a = c.args in simp (lt-leb (a.at + size a.k a.count) (length a.page.now) (omega arith))

pub returns-then-not-fits : goal.returns-then-not-fits
unfolding both
returns-then-not-fits c =
    let a = c.args in
    let f : length a.page.now - a.at < size a.k a.count = leb-false _ _
    (sym c.fits.ensures ∙ c.if-not-fits.true) in
    simp (lt-leb (a.at + size a.k a.count) (length a.page.now) (omega arith))

pub array_rules_ok-requires : goal.array_rules_ok-requires
array_rules_ok-requires c =
    let a = c.args in
    let f : size a.k a.count ≤ length a.page.now - a.at = leb-true _ _
    (sym c.fits.ensures ∙ c.if-not-fits.false) in
    omega arith

pub returns : goal.returns
unfolding both
returns c =
    let a = c.args in
    let f : size a.k a.count ≤ length a.page.now - a.at = leb-true _ _
    (sym c.fits.ensures ∙ c.if-not-fits.false) in
    simp (le-leb (a.at + size a.k a.count) (length a.page.now) (omega arith)) c.array_rules_ok.ensures
