use Rattle.std.proofs.Common.{◌≡◌, ◌+◌, ◌*◌, sym, refl, ap, ◌∙◌, arith, rules}
use Rattle.words.specs.Tests.{both}
use Rattle.words.specs.Word.{word_at, words_of}
use Rattle.words.proofs.Read.{word-lent}
use Rattle.entries.specs.Entry.{bank_ok, sum}
use Rattle.entries.specs.Steps.{sum_at}
use Rattle.entries.specs.Fast.{bank_clear}
use Rattle.entries.proofs.Entries.{entries_none, sum-bank, told-if}
use Rattle.entries.proofs.Fast.{bank-step}
use Rattle.entries.proofs.sum_of_banks.Goals as goal

pub loop-i-init : goal.loop-i-init
unfolding bank_clear both words_of sum
loop-i-init c =
    let a = c.args in
    (search rules, search rules, refl, rw c.none-bits.ensures (sym (entries_none a.minor a.k a.at a.page.now)))

pub loop-i-preserved : goal.loop-i-preserved
loop-i-preserved c =
    let a = c.args in
    let l = c.loop-i in
    let x : c.whole_word-base.result ≡ word_at l.from
    a.page.now = c.whole_word-base.ensures ∙
    word-lent l.from 16 0 l.from a.page.now (omega arith) (omega arith) (omega arith) in
    let y : c.whole_word-size.result ≡ word_at (l.from + 8)
    a.page.now = c.whole_word-size.ensures ∙
    word-lent l.from 16 8 (l.from + 8) a.page.now (omega arith) (omega arith) (omega arith) in (
      search rules,
      search rules,
      sum-bank a.page.now a.at l.from l.i (8 * (2 * a.count)) l.sum _ _ _ _ (omega arith)
          l.invariant.1 l.invariant.2 x y refl refl,
      bank-step a.minor a.at l.i a.page.now _ a.k _ _ c.requires.0 (rw l.invariant.1 at x)
          (rw l.invariant.1 at y) (c.with_bank-bits.ensures ∙ ap
          (λ z. both z (bank_ok c.whole_word-base.result
          c.whole_word-size.result)) l.invariant.3),
    )

pub returns : goal.returns
unfolding sum_at
returns c =
    let a = c.args in
    let l = c.loop-i in
    let e : l.i ≡ a.count = omega arith in
    told-if _ _ _ _ _ c.then_some.ensures (c.banks_clear.ensures ∙ l.invariant.3 ∙ rw e) (rw e at l.invariant.2)
