use mathlib.Core.Path.{sym, ap, ◌∙◌}
use native.Mathlib.Omega.{arith}
use borrow.Author.Rules.{rules}
use Rattle.realm_words.specs.Bits.{packed}
use Rattle.realm_words.proofs.Packing.{block-short, eight-octets}
use Rattle.realm_words.proofs.word_from.Goals as goal

pub returns-then-table-index-lt-WORD_GRANULES : goal.returns-then-table-index-lt-WORD_GRANULES
returns-then-table-index-lt-WORD_GRANULES c =
    let a = c.args in
    c.packed_of.ensures ∙ ap packed (block-short a.table.now a.index (search rules))

pub returns : goal.returns
returns c =
    let a = c.args in
    rw (
      c.octet.ensures.0,
      c.octet-2.ensures.0,
      c.octet-3.ensures.0,
      c.octet-4.ensures.0,
      c.octet-5.ensures.0,
      c.octet-6.ensures.0,
      c.octet-7.ensures.0,
      c.octet-8.ensures.0,
    )
    (sym (eight-octets a.index a.table.now (omega arith)))
