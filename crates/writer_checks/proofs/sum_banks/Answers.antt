use Rattle.std.proofs.Common.{◌≡◌, ◌+◌, ◌*◌, ◌/◌, ◌<◌, [], length, get_or, sym, refl, ap, ◌∙◌, arith}
use Rattle.words.specs.Tests.{both}
use Rattle.entries.specs.Entry.{bank_ok, sum}
use Rattle.entries.specs.Fast.{bank_clear}
use Rattle.writer_checks.proofs.Described.{described-none, described-bank, sum-bank, chunk-at}
use Rattle.writer_checks.proofs.sum_banks.Goals as goal

pub loop-bank-init : goal.loop-bank-init
unfolding bank_clear both sum
loop-bank-init c =
    let a = c.args in
    (refl, rw c.none-bits.ensures (sym (described-none a.minor a.k a.words.now)))

pub loop-bank-preserved : goal.loop-bank-preserved
loop-bank-preserved c =
    let a = c.args in
    let l = c.loop-bank in
    let i = l.bank-index in
    let ws = a.words.now in
    let n = length ws / 2 in
    let h : i < n = omega (arith, c.as_chunks.ensures.front_len, c.loop-bank-test.true) in
    let x : get_or (get_or c.as_chunks.result.0.now i []) 0 0 ≡ get_or ws (2 * i) 0 = rw c.as_chunks.ensures.front (chunk-at 2 n i 0 ws h (omega arith) ∙ ap (λ j. get_or ws j 0) (let z : 2 * i + 0 ≡ 2 * i = omega arith in z)) in
    let y : get_or (get_or c.as_chunks.result.0.now i []) 1 0 ≡ get_or ws (2 * i + 1) 0 = rw c.as_chunks.ensures.front (chunk-at 2 n i 1 ws h (omega arith)) in (
      sum-bank ws i (2 * i) l.sum _ _ (omega arith) refl l.invariant.0
          (rw x at c.wrapping_add_u64-sum.ensures.value) (rw y at c.wrapping_add_u64-sum-in-loop-bank.ensures.value),
      described-bank a.minor i ws _ a.k (2 * i) c.requires refl
          ((rw (x, y) at c.with_bank-bits.ensures) ∙ ap (λ b. both b (bank_ok (get_or ws (2 * i) 0) (get_or ws (2 * i + 1) 0))) l.invariant.1),
    )
