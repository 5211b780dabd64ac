use Prim.Native.Nat.{ℕ, ◌+◌, ◌*◌, ◌/◌, ◌%◌, ◌≤◌, ◌<◌}
use mathlib.Core.List.{List}
use lib.ListN.{length, take}
use lib.Seq.{length-take-le, get_or-take}
use mathlib.Core.Path.{◌≡◌, sym, ap, ◌∙◌}
use native.Mathlib.Nat.{mod-lt}
use native.Mathlib.Omega.{arith}
use lib.Count.{ones-le, ones}
use lib.Pow.{pow_pos}
use borrow.Author.Tests.{eqb-true}
use borrow.Author.Rules.{rules}
use Rattle.realm_words.specs.Bits.{words_for, bit_at}
use Rattle.realm_words.specs.Answers.{marked, realm_count_of}
use Rattle.realm_words.proofs.Codes.{count-told}
use Rattle.realm_words.proofs.Counting.{marked-none, marked_more, marked-word}
use Rattle.std.specs.Prelude.{Result}
use Rattle.realm_words.proofs.count.Goals as goal

pub returns-then-not-words_fit : goal.returns-then-not-words_fit
unfolding realm_count_of
returns-then-not-words_fit c =
    let a = c.args in
    let told = count-told a.words.now a.granules _ (rw (sym c.words_fit.ensures ∙ c.if-not-words_fit.true)) in record { value = told.0; result_value = told.1 }

pub loop-word-init : goal.loop-word-init
loop-word-init c = (
  eqb-true _ _ (sym c.words_fit.ensures ∙ c.if-not-words_fit.false),
  search rules,
  search rules,
  marked-none c.args.words.now,
)

-- the whole words are among the words
whole_words : (ws : List ℕ) (n : ℕ) → length ws ≡ words_for n → length (take (n / 64) ws) ≡ n / 64
unfolding words_for
whole_words ws n f = length-take-le (n / 64) ws (omega arith)

pub slice_bounds-word-items-end : goal.slice_bounds-word-items-end
unfolding words_for
slice_bounds-word-items-end c =
    let f : length c.args.words.now ≡ words_for c.args.granules = eqb-true _ _ (sym c.words_fit.ensures ∙ c.if-not-words_fit.false) in
    omega (arith, whole_words c.args.words.now c.args.granules f)

pub loop-word-preserved : goal.loop-word-preserved
loop-word-preserved c =
    let a = c.args in
    let l = c.loop-word in
    let w = whole_words a.words.now a.granules l.invariant.0 in
    let h : l.word-index < a.granules / 64 = omega arith in
    let e = get_or-take (a.granules / 64) a.words.now l.word-index 0 h in (
      l.invariant.0,
      omega arith,
      omega (arith, c.ones_in-sum.ensures.1),
      marked_more a.words.now l.word-index l.sum _
          (omega (arith, c.type_inv.words l.word-index)) l.invariant.3 (c.ones_in-sum.ensures.0 ∙ ap ones e),
    )

pub returns-then-rest-eq0 : goal.returns-then-rest-eq0
unfolding realm_count_of
returns-then-rest-eq0 c =
    let a = c.args in
    let l = c.loop-word in
    let y = sym c.words_fit.ensures ∙ c.if-not-words_fit.false in
    let w = whole_words a.words.now a.granules l.invariant.0 in
    let e : a.granules ≡ 64 * l.word-index = omega arith in
    let told = count-told a.words.now a.granules _ (rw y (ap Result.Ok (l.invariant.3 ∙ ap (marked (bit_at a.words.now)) (sym e)))) in record { value = told.0; result_value = told.1 }

pub bounds-words-whole : goal.bounds-words-whole
unfolding words_for
bounds-words-whole c = search rules

pub overflow_add-result : goal.overflow_add-result
overflow_add-result c =
    let a = c.args in
    let o : c.ones_in.result ≡ ones c.low_bits.result = c.ones_in.ensures.0 in
    let b : ones c.low_bits.result ≤ a.granules % 64 = ones-le (a.granules % 64) c.low_bits.result
    (rw c.low_bits.ensures (mod-lt _ (pow_pos (a.granules % 64)))) in
    omega arith

pub returns : goal.returns
unfolding realm_count_of
returns c =
    let a = c.args in
    let l = c.loop-word in
    let y = sym c.words_fit.ensures ∙
    c.if-not-words_fit.false in
    let e : a.granules ≡ 64 * (a.granules / 64) + a.granules % 64 = omega arith in
    let k = whole_words a.words.now a.granules l.invariant.0 in
    let w : l.word-index ≡ a.granules / 64 = omega arith in
    let s : l.sum ≡ marked (bit_at a.words.now) (64 * (a.granules / 64)) = l.invariant.3 ∙ rw w in
    let o = c.ones_in.ensures.0 ∙ ap ones c.low_bits.ensures in
    let told = count-told a.words.now a.granules _ (rw y (ap Result.Ok
    (rw (s, o) (sym (ap (marked (bit_at a.words.now)) e ∙
    marked-word a.words.now (a.granules / 64) (a.granules % 64) (omega arith)))))) in record { value = told.0; result_value = told.1 }
