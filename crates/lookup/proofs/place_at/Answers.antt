use mathlib.Core.Path.{◌≡◌, sym, ap, ◌∙◌}
use Prim.Native.Nat.{◌-◌, ◌*◌, ◌<◌}
use native.Mathlib.Omega.{arith}
use borrow.Author.Tests.{leb-false}
use Rattle.words.specs.Word.{no_span, span_at}
use Rattle.entries.specs.Entry.{size}
use Rattle.entries.proofs.Entries.{fits-end}
use Rattle.lookup.proofs.Lookups.{place-in, place_out}
use borrow.Author.Rules.{rules}
use Rattle.lookup.proofs.place_at.Goals.{then-room-at-via-then-room-at, then-room-at-via-else-room-at+then-not-fits}
use Rattle.lookup.proofs.place_at.Goals as goal

pub returns-then-room-at : goal.returns-then-room-at
unfolding no_span
returns-then-room-at c =
    let a = c.args in
    elim c.then-room-at.branch [
      | then-room-at-via-then-room-at w ↦ place_out a.k a.at a.count a.room (omega arith)
      | then-room-at-via-else-room-at+then-not-fits w ↦
          let f : a.room - a.at < size a.k a.count = leb-false _ _ (sym w.fits.ensures ∙ w.if-not-fits.true) in
          place_out a.k a.at a.count a.room (omega arith)
    ]

pub overflow_mul-entry_words : goal.overflow_mul-entry_words
overflow_mul-entry_words c =
    let a = c.args in
    omega (
      arith,
      fits-end a.k a.count a.at a.room c.entry_words.result _ c.entry_words.ensures.0
          c.fits.ensures (c.if-not-fits.false) (search rules),
    )

pub overflow_mul-entry_words-2 : goal.overflow_mul-entry_words-2
overflow_mul-entry_words-2 c =
    let a = c.args in
    omega (
      arith,
      fits-end a.k a.count a.at a.room c.entry_words.result _ c.entry_words.ensures.0
          c.fits.ensures (c.if-not-fits.false) (search rules),
    )

pub returns : goal.returns
unfolding size
returns c =
    let a = c.args in
    let f = fits-end a.k a.count a.at a.room c.entry_words.result _ c.entry_words.ensures.0
    c.fits.ensures (c.if-not-fits.false) (search rules) in
    let e : 8 * (c.entry_words.result * a.count) ≡ size a.k a.count = rw c.entry_words.ensures.0 in
    c.span_at.ensures ∙ ap (span_at a.at) e ∙ sym (place-in a.k a.at a.count a.room (omega arith))
