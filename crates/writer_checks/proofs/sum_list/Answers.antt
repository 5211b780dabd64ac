use Rattle.std.proofs.Common.{◌≡◌, ◌*◌, ◌/◌, ◌%◌, length, sym, ap, ◌∙◌, arith}
use Rattle.entries.specs.Entry.{words_per_entry, entries_ok}
use Rattle.entries.proofs.Entries.{per-one, per-other}
use Rattle.writer_checks.proofs.Described.{list-part, list-whole, sum-all}
use Rattle.writer_checks.proofs.sum_list.Goals as goal

pub returns-then-words-step-ne0 : goal.returns-then-words-step-ne0
returns-then-words-step-ne0 c =
    let a = c.args in
    rw (list-part a.minor a.k a.words.now (rw c.entry_words-step.ensures.0 at c.if-words-step-ne0.true))

pub returns-then-k-eq1 : goal.returns-then-k-eq1
returns-then-k-eq1 c =
    let a = c.args in
    let w = c.entry_words-step in
    let n = length a.words.now in
    let p : w.result ≡ 6 = w.ensures.0 ∙ ap words_per_entry c.if-k-eq1.true ∙ per-one in
    let ok = c.consoles_ok.ensures
    ∙ ap (λ x. entries_ok a.minor x (n / 6) a.words.now) (sym c.if-k-eq1.true)
    ∙ ap (λ x. entries_ok a.minor a.k (n / x) a.words.now) (sym p ∙ w.ensures.0)
    ∙ sym (list-whole a.minor a.k a.words.now (rw w.ensures.0 at c.if-words-step-ne0.false)) in
    c.then_some.ensures ∙ rw (ok, c.sum_of-sum.ensures)

pub sum_banks-requires : goal.sum_banks-requires
sum_banks-requires c = c.if-k-eq1.false

pub returns : goal.returns
returns c =
    let a = c.args in
    let w = c.entry_words-step in
    let n = length a.words.now in
    let p : w.result ≡ 2 = w.ensures.0 ∙ per-other a.k c.if-k-eq1.false in
    let z : n % 2 ≡ 0 = rw p at c.if-words-step-ne0.false in
    let ok = ap (λ x. entries_ok a.minor a.k (n / x) a.words.now) (sym p ∙ w.ensures.0)
    ∙ sym (list-whole a.minor a.k a.words.now (rw w.ensures.0 at c.if-words-step-ne0.false)) in
    c.sum_banks.ensures ∙ rw (ok, sum-all a.words.now (2 * (n / 2)) (omega arith))
