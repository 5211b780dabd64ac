use Prim.Native.Nat.{◌<◌}
use mathlib.Core.Path.{◌≡◌, refl, sym, ap, ◌∙◌}
use Rattle.std.specs.Prelude.{Result}
use native.Mathlib.Omega.{arith}
use lib.ListN.{length}
use lib.Count.{count_trailing_zeros}
use borrow.Author.Tests.{eqb-true, lt-ltb, le-ltb}
use borrow.Author.Rules.{rules}
use Rattle.words.specs.Tests.{both}
use Rattle.realm_words.specs.Bits.{words_for}
use Rattle.realm_words.specs.Answers.{realm_next_of}
use Rattle.realm_words.proofs.Codes.{next-told}
use Rattle.realm_next.proofs.Looking.{look-first, look-more, look_none, look_hit}
use Rattle.realm_next.proofs.next.Goals as goal

pub returns-then-not-words_fit : goal.returns-then-not-words_fit
unfolding realm_next_of both
returns-then-not-words_fit c =
    let a = c.args in
    let told = next-told a.words.now a.granules a.index _ (rw (sym c.words_fit.ensures ∙ c.if-not-words_fit.true)) in record { value = told.0; result_value = told.1 }

pub returns-then-granules-index : goal.returns-then-granules-index
unfolding realm_next_of both
returns-then-granules-index c =
    let a = c.args in
    let told = next-told a.words.now a.granules a.index _
    (rw (sym c.words_fit.ensures ∙ c.if-not-words_fit.false, le-ltb a.index a.granules (search rules))) in record { value = told.0; result_value = told.1 }

pub bounds-words-at : goal.bounds-words-at
unfolding words_for
bounds-words-at c =
    let a = c.args in
    let f : length a.words.now ≡ words_for a.granules = eqb-true _ _
    (sym c.words_fit.ensures ∙ c.if-not-words_fit.false) in
    omega arith

pub loop-bits-init : goal.loop-bits-init
loop-bits-init c =
    let a = c.args in
    let f : length a.words.now ≡ words_for a.granules = eqb-true _ _
    (sym c.words_fit.ensures ∙ c.if-not-words_fit.false) in
    (f, search rules, look-first a.words.now a.granules a.index _ (search rules) c.high_bits-bits.ensures)

pub returns-then-words-at : goal.returns-then-words-at
unfolding realm_next_of both
returns-then-words-at c =
    let a = c.args in
    let l = c.loop-bits in
    let told = next-told a.words.now a.granules a.index _
    (rw (
      sym c.words_fit.ensures ∙
          c.if-not-words_fit.false,
      lt-ltb a.index a.granules (search rules),
    )
    (ap Result.Ok (sym (look_none a.words.now a.granules a.index l.at l.bits l.invariant.2 (search rules) (search rules) (omega arith))))) in record { value = told.0; result_value = told.1 }

pub loop-bits-preserved : goal.loop-bits-preserved
loop-bits-preserved c =
    let a = c.args in
    let l = c.loop-bits in (
      l.invariant.0,
      l.invariant.1,
      look-more a.words.now a.granules a.index l.at l.bits l.invariant.2 (search rules) _
          (omega arith) refl,
    )

pub overflow_add-at-2 : goal.overflow_add-at-2
overflow_add-at-2 c =
    let t = c.first_bit.ensures.1 (omega arith) in
    omega arith

pub returns : goal.returns
unfolding realm_next_of both
returns c =
    let a = c.args in
    let l = c.loop-bits in
    let e : c.first_bit.result ≡ count_trailing_zeros 64 l.bits = c.first_bit.ensures.0 in
    let t : c.first_bit.result < 64 = c.first_bit.ensures.1 (omega arith) in
    let told = next-told a.words.now a.granules a.index _
    (rw (
      sym c.words_fit.ensures ∙ c.if-not-words_fit.false,
      lt-ltb a.index a.granules (search rules),
    )
    (ap Result.Ok (c.hit_below.ensures ∙ rw e (sym (look_hit a.words.now a.granules a.index l.at l.bits l.invariant.2 (rw (← e) t)
    (search rules)))))) in record { value = told.0; result_value = told.1 }
