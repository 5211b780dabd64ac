use Rattle.std.proofs.Common.{◌≡◌, ◌<◌, ◌≤◌, length, sym, ◌∙◌, arith, rules}
use Rattle.banks.specs.Banks.{bank_count}
use Rattle.banks.proofs.Passing.{refused, many-refused, badly-refused, passed, follows_is, stage-first, stage-more}
use Rattle.banks.proofs.Passing.{stage-stops, stage-judged, stage-counted, pair-base, pair-size, pairs-many}
use Rattle.banks.proofs.granule_count.Goals as goal

pub returns-then-count-gt-BANKS_MOST : goal.returns-then-count-gt-BANKS_MOST
returns-then-count-gt-BANKS_MOST c = let a = c.args in refused a.granules.now (many-refused a.granules.now (search rules))

pub loop-bank-init : goal.loop-bank-init
loop-bank-init c = stage-first c.args.granules.now

pub returns-then-not-bank_follows : goal.returns-then-not-bank_follows
returns-then-not-bank_follows c =
    let g = c.args.granules.now in
    let l = c.loop-bank in
    let i = l.bank-index in
    let p = c.as_chunks.ensures in
    let k : length g ≡ 33 = search rules in
    let m : bank_count g ≤ 16 = search rules in
    let h : i < bank_count g = omega (arith, c.loop-bank-test.true, pairs-many g k (bank_count g) m _ p.front p.front_len) in
    let f = sym c.bank_follows.ensures ∙ c.if-not-bank_follows.true in
    refused g (badly-refused g
    (stage-stops g i l.low l.sum l.invariant _ _ h (pair-base g k (bank_count g) m _ p.front i h) (pair-size g k (bank_count g) m _ p.front i h) f))

pub overflow_add-sum : goal.overflow_add-sum
overflow_add-sum c =
    let i = c.loop-bank.invariant in
    let f = follows_is _ _ _ (sym c.bank_follows.ensures ∙ c.if-not-bank_follows.false) in
    omega arith

pub overflow_add-low : goal.overflow_add-low
overflow_add-low c =
    let i = c.loop-bank.invariant in
    let f = follows_is _ _ _ (sym c.bank_follows.ensures ∙ c.if-not-bank_follows.false) in
    omega arith

pub loop-bank-preserved : goal.loop-bank-preserved
loop-bank-preserved c =
    let g = c.args.granules.now in
    let l = c.loop-bank in
    let i = l.bank-index in
    let p = c.as_chunks.ensures in
    let k : length g ≡ 33 = search rules in
    let m : bank_count g ≤ 16 = search rules in
    let h : i < bank_count g = omega (arith, c.loop-bank-test.true, pairs-many g k (bank_count g) m _ p.front p.front_len) in
    let f = sym c.bank_follows.ensures ∙ c.if-not-bank_follows.false in
    stage-more g i l.low l.sum l.invariant _ _ h (pair-base g k (bank_count g) m _ p.front i h) (pair-size g k (bank_count g) m _ p.front i h) f

pub returns : goal.returns
returns c =
    let g = c.args.granules.now in
    let l = c.loop-bank in
    let i = l.bank-index in
    let p = c.as_chunks.ensures in
    let s = l.invariant in
    let k : length g ≡ 33 = search rules in
    let m : bank_count g ≤ 16 = search rules in
    let h : bank_count g ≤ i = omega (arith, c.loop-bank-test.false, pairs-many g k (bank_count g) m _ p.front p.front_len) in
    passed g l.sum m (stage-judged g i l.low l.sum s h) (stage-counted g i l.low l.sum s h)
