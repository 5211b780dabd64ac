use Rattle.std.proofs.Common.{◌≡◌, refl, ap, arith}
use Rattle.entries.specs.Entry.{size}
use Rattle.entries.proofs.Entries.{per-other, size-one, size-other, consoles-found, told-if}
use Rattle.entries.proofs.sum_of_entries.Goals as goal

pub overflow_mul-count : goal.overflow_mul-count
overflow_mul-count c =
    let a = c.args in
    let e : size a.k a.count ≡ size 1 a.count = ap (λ k. size k a.count) c.if-k-eq1.true in
    omega (arith, size-one a.count)

pub sum_words-sum-requires : goal.sum_words-sum-requires
sum_words-sum-requires c =
    let a = c.args in
    let e : size a.k a.count ≡ size 1 a.count = ap (λ k. size k a.count) c.if-k-eq1.true in
    omega (arith, size-one a.count)

pub consoles_ok-requires : goal.consoles_ok-requires
consoles_ok-requires c =
    let a = c.args in
    let e : size a.k a.count ≡ size 1 a.count = ap (λ k. size k a.count) c.if-k-eq1.true in
    omega (arith, size-one a.count)

pub returns-then-k-eq1 : goal.returns-then-k-eq1
returns-then-k-eq1 c =
    let a = c.args in
    let f = consoles-found a.minor a.k a.at a.count a.count a.page.now _ _ c.if-k-eq1.true refl
    (c.sum_words-sum.ensures, c.consoles_ok.ensures) in
    told-if _ _ _ _ _ c.then_some.ensures f.1 f.0

pub sum_of_banks-requires : goal.sum_of_banks-requires
sum_of_banks-requires c =
    let a = c.args in
    (c.if-k-eq1.false, omega (arith, size-other a.k a.count c.if-k-eq1.false))

pub returns : goal.returns
returns c = rw (per-other c.args.k c.if-k-eq1.false) c.sum_of_banks.ensures
