use mathlib.Core.Path.{◌≡◌, sym, ap, ◌∙◌}
use mathlib.Core.Bool.{true, false}
use native.Mathlib.Omega.{arith}
use borrow.Author.Rules.{rules}
use Rattle.realm_words.specs.Bits.{words_for, realm_words}
use Rattle.realm_words.specs.Answers.{both_fit, same_words, realm_agree_of}
use Rattle.realm_words.proofs.Agreeing.{fits, agree-first, agree-more, agree-not, agree-last}
use Rattle.realm_words.proofs.Codes.{agree-code}
use Rattle.realm_words.proofs.agrees.Goals as goal

pub returns-then-not-both_fit : goal.returns-then-not-both_fit
unfolding realm_agree_of
returns-then-not-both_fit c =
    let a = c.args in
    let told = agree-code a.table.now a.words.now a.granules _ (rw (sym c.both_fit.ensures ∙ c.if-not-both_fit.true)) in record { value = told.0; result_value = told.1 }

pub loop-i-init : goal.loop-i-init
loop-i-init c =
    let a = c.args in
    let f = fits a.table.now a.words.now a.granules (sym c.both_fit.ensures ∙ c.if-not-both_fit.false) in
    (f, search rules, agree-first a.words.now a.table.now (f.words-fit ∙ ap words_for (sym f.table-fit)))

pub overflow_mul-i : goal.overflow_mul-i
unfolding words_for
overflow_mul-i c = omega arith

pub word_from-requires : goal.word_from-requires
unfolding words_for
word_from-requires c = omega arith

pub returns-then-word-word_from : goal.returns-then-word-word_from
unfolding realm_agree_of
returns-then-word-word_from c =
    let a = c.args in
    let l = c.loop-i in
    let y : both_fit a.table.now a.words.now a.granules ≡ true = sym
    c.both_fit.ensures ∙
    c.if-not-both_fit.false in
    let n : same_words a.words.now (realm_words a.table.now) ≡ false = l.invariant.2 ∙
    agree-not a.words.now a.table.now l.i (search rules) (λ e. c.if-word-word_from.true (e ∙ sym c.word_from.ensures)) in
    let told = agree-code a.table.now a.words.now a.granules _ (rw (y, n)) in record { value = told.0; result_value = told.1 }

pub loop-i-preserved : goal.loop-i-preserved
loop-i-preserved c =
    let a = c.args in
    let l = c.loop-i in (
      l.invariant.0,
      search rules,
      l.invariant.2 ∙ agree-more a.words.now a.table.now l.i (search rules)
          (c.if-word-word_from.false ∙ c.word_from.ensures),
    )

pub returns : goal.returns
unfolding realm_agree_of
returns c =
    let a = c.args in
    let l = c.loop-i in
    let y : both_fit a.table.now a.words.now a.granules ≡ true = sym c.both_fit.ensures ∙
    c.if-not-both_fit.false in
    let s : same_words a.words.now (realm_words a.table.now) ≡ true = l.invariant.2 ∙
    agree-last a.words.now a.table.now l.i (omega arith) in
    let told = agree-code a.table.now a.words.now a.granules _ (rw (y, s)) in record { value = told.0; result_value = told.1 }
