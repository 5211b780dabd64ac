use Rattle.std.proofs.Common.{◌≡◌, ◌<◌, ◌≤◌, length, sym, ap, ◌∙◌, arith, rules, le-leb}
use borrow.Author.Tests.{lt-leb}
use Rattle.banks.specs.Banks.{bank_count}
use Rattle.banks.proofs.Passing.{left-all, pair-base, pair-size, pairs-many}
use Rattle.banks.specs.Fast.{bank_among, bank_of}
use Rattle.banks.proofs.Fast.{bank-last, bank-more, bank-hit}
use Rattle.banks.proofs.bank_of.Goals as goal

pub returns-then-count-gt-BANKS_MOST : goal.returns-then-count-gt-BANKS_MOST
unfolding bank_of
returns-then-count-gt-BANKS_MOST c =
    let a = c.args in
    simp (lt-leb (bank_count a.granules.now) 16 (search rules)) c.no_bank.ensures

pub loop-bank-init : goal.loop-bank-init
loop-bank-init c =
    let a = c.args in
    (search rules, ap (λ l. bank_among 0 l a.address) (sym (left-all a.granules.now)))

pub returns-then-bank_holds : goal.returns-then-bank_holds
unfolding bank_of
returns-then-bank_holds c =
    let g = c.args.granules.now in
    let l = c.loop-bank in
    let i = l.bank-index in
    let p = c.as_chunks.ensures in
    let k : length g ≡ 33 = search rules in
    let m : bank_count g ≤ 16 = search rules in
    let h : i < bank_count g = omega (arith, c.loop-bank-test.true, pairs-many g k (bank_count g) m _ p.front p.front_len) in
    let x = pair-base g k (bank_count g) m _ p.front i h in
    let y = pair-size g k (bank_count g) m _ p.front i h in
    simp (le-leb (bank_count g) 16 m)
    (rw (x, y) (sym (l.invariant.1 ∙ bank-hit g c.args.address i l.before h _ (rw (x, y) at c.bank_holds.ensures) c.if-bank_holds.true)))

pub loop-bank-preserved : goal.loop-bank-preserved
loop-bank-preserved c =
    let g = c.args.granules.now in
    let l = c.loop-bank in
    let i = l.bank-index in
    let p = c.as_chunks.ensures in
    let k : length g ≡ 33 = search rules in
    let m : bank_count g ≤ 16 = search rules in
    let h : i < bank_count g = omega (arith, c.loop-bank-test.true, pairs-many g k (bank_count g) m _ p.front p.front_len) in
    let x = pair-base g k (bank_count g) m _ p.front i h in
    let y = pair-size g k (bank_count g) m _ p.front i h in
    let n = bank-more g c.args.address i l.before h _ (rw (x, y) at c.bank_holds.ensures) c.if-bank_holds.false in
    (omega arith, rw (c.granules_in-before.ensures.0, y) (l.invariant.1 ∙ n))

pub returns : goal.returns
unfolding bank_of
returns c =
    let g = c.args.granules.now in
    let l = c.loop-bank in
    let i = l.bank-index in
    let p = c.as_chunks.ensures in
    let k : length g ≡ 33 = search rules in
    let m : bank_count g ≤ 16 = search rules in
    let h : bank_count g ≤ i = omega (arith, c.loop-bank-test.false, pairs-many g k (bank_count g) m _ p.front p.front_len) in
    simp (le-leb (bank_count g) 16 m)
    (c.no_bank-2.ensures ∙ sym (l.invariant.1 ∙ bank-last g c.args.address i l.before h))
