use mathlib.Core.Path.{◌≡◌, refl, sym, ap, ◌∙◌}
use mathlib.Core.Bool.{true}
use native.Mathlib.Omega.{arith}
use lib.ListN.{length, length-set}
use borrow.Author.Rules.{rules}
use Rattle.realm_words.specs.Bits.{words_for}
use Rattle.realm_words.specs.Answers.{both_fit, realm_build_of}
use Rattle.realm_words.proofs.Agreeing.{fits, build-none, build-more, build-last}
use Rattle.realm_words.proofs.Codes.{build-code}
use Rattle.realm_words.proofs.build.Goals as goal

pub returns-then-not-both_fit : goal.returns-then-not-both_fit
unfolding realm_build_of
returns-then-not-both_fit c =
    let a = c.args in
    let told = build-code a.table.now a.words.now a.granules _ (rw (sym c.both_fit.ensures ∙ c.if-not-both_fit.true)) in record { fact = told.0; result_value = told.1 }

pub loop-i-init : goal.loop-i-init
loop-i-init c =
    let a = c.args in (
      fits a.table.now a.words.now a.granules (sym c.both_fit.ensures ∙ c.if-not-both_fit.false),
      search rules,
      refl,
      build-none a.table.now a.words.now,
    )

pub overflow_mul-i : goal.overflow_mul-i
unfolding words_for
overflow_mul-i c = omega arith

pub word_from-requires : goal.word_from-requires
unfolding words_for
word_from-requires c = omega arith

pub bounds-words-i : goal.bounds-words-i
unfolding words_for
bounds-words-i c = omega arith

pub loop-i-preserved : goal.loop-i-preserved
unfolding words_for
loop-i-preserved c =
    let a = c.args in
    let l = c.loop-i in (
      l.invariant.0,
      omega arith,
      simp length-set (omega arith),
      rw l.invariant.3 (build-more a.table.now a.words.now l.i _ (omega arith) c.word_from.ensures),
    )

pub returns : goal.returns
unfolding realm_build_of
returns c =
    let a = c.args in
    let l = c.loop-i in
    let y : both_fit a.table.now a.words.now a.granules ≡ true = sym c.both_fit.ensures ∙
    c.if-not-both_fit.false in
    let f = l.invariant.0 in
    let e : l.i ≡ length a.words.now = omega arith in
    let told = build-code a.table.now a.words.now a.granules _
    (rw (y, l.invariant.3, build-last a.table.now a.words.now l.i e (f.words-fit ∙ ap words_for (sym f.table-fit)))) in record { fact = told.0; result_value = told.1 }
