use mathlib.Core.Path.{sym, ◌∙◌}
use Prim.Native.Nat.{◌-◌, ◌≤◌, ◌<◌}
use lib.ListN.{length}
use borrow.Author.Tests.{leb-true, leb-false}
use Rattle.entries.specs.Entry.{size}
use Rattle.entries.proofs.Entries.{fits-end}
use Rattle.lookup.proofs.Lookups.{word-narrow, word-past, word_out, word-there, word-place}
use borrow.Author.Rules.{rules}
use native.Mathlib.Omega.{arith}
use Rattle.lookup.proofs.word_at.Goals.{then-step-j-via-then-step-j, then-step-j-via-else-step-j+then-count-i}
use Rattle.lookup.proofs.word_at.Goals.{then-page-at-via-then-page-at, then-page-at-via-else-page-at+then-not-fits}
use Rattle.lookup.proofs.word_at.Goals as goal

pub returns-then-step-j : goal.returns-then-step-j
returns-then-step-j c =
    let a = c.args in
    elim c.then-step-j.branch [
      | then-step-j-via-then-step-j w ↦ word-narrow a.k a.at a.count a.i a.j a.page.now (omega arith)
      | then-step-j-via-else-step-j+then-count-i w ↦ word-past a.k a.at a.count a.i a.j a.page.now (omega arith)
    ]

pub returns-then-page-at : goal.returns-then-page-at
returns-then-page-at c =
    let a = c.args in
    elim c.then-page-at.branch [
      | then-page-at-via-then-page-at w ↦ word_out a.k a.at a.count a.i a.j a.page.now (omega arith)
      | then-page-at-via-else-page-at+then-not-fits w ↦
          let f : length a.page.now - a.at < size a.k a.count = leb-false _ _ (sym w.fits.ensures ∙ w.if-not-fits.true) in
          word_out a.k a.at a.count a.i a.j a.page.now (omega arith)
    ]

pub overflow_mul-step : goal.overflow_mul-step
overflow_mul-step c =
    omega (
      arith,
      word-place c.args.i
          c.args.count
          c.args.j
          c.entry_words-step.result (search rules) (search rules),
      fits-end c.args.k
          c.args.count
          c.args.at
          (length c.args.page.now)
          c.entry_words-step.result _
          c.entry_words-step.ensures.0 c.fits.ensures
          (c.if-not-fits.false) (search rules),
    )

pub overflow_add-step : goal.overflow_add-step
overflow_add-step c =
    omega (
      arith,
      word-place c.args.i
          c.args.count
          c.args.j
          c.entry_words-step.result (search rules) (search rules),
      fits-end c.args.k
          c.args.count
          c.args.at
          (length c.args.page.now)
          c.entry_words-step.result _
          c.entry_words-step.ensures.0 c.fits.ensures
          (c.if-not-fits.false) (search rules),
    )

pub overflow_mul-step-2 : goal.overflow_mul-step-2
overflow_mul-step-2 c =
    omega (
      arith,
      word-place c.args.i
          c.args.count
          c.args.j
          c.entry_words-step.result (search rules) (search rules),
      fits-end c.args.k
          c.args.count
          c.args.at
          (length c.args.page.now)
          c.entry_words-step.result _
          c.entry_words-step.ensures.0 c.fits.ensures
          (c.if-not-fits.false) (search rules),
    )

pub overflow_add-at : goal.overflow_add-at
overflow_add-at c =
    omega (
      arith,
      word-place c.args.i
          c.args.count
          c.args.j
          c.entry_words-step.result (search rules) (search rules),
      fits-end c.args.k
          c.args.count
          c.args.at
          (length c.args.page.now)
          c.entry_words-step.result _
          c.entry_words-step.ensures.0 c.fits.ensures
          (c.if-not-fits.false) (search rules),
    )

pub returns : goal.returns
returns c =
    let a = c.args in
    let f : size a.k a.count ≤ length a.page.now - a.at = leb-true _ _
    (sym c.fits.ensures ∙ c.if-not-fits.false) in
    c.word_at.ensures ∙ rw c.entry_words-step.ensures.0
    (word-there a.k a.at a.count a.i a.j a.page.now (omega arith) (omega arith) (omega arith))
