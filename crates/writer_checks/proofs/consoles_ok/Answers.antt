use Rattle.std.proofs.Common.{◌≡◌, ◌+◌, ◌*◌, ◌/◌, ◌<◌, [], length, get_or, sym, refl, ap, ◌∙◌, arith}
use Rattle.words.specs.Tests.{both, either}
use Rattle.entries.specs.Entry.{flags_ok}
use Rattle.entries.specs.Fast.{console_clear}
use Rattle.writer_checks.proofs.Described.{described-none, described-console, chunk-at}
use Rattle.writer_checks.proofs.consoles_ok.Goals as goal

pub loop-console-init : goal.loop-console-init
unfolding console_clear flags_ok both either
loop-console-init c = let a = c.args in rw c.none-bits.ensures (sym (described-none a.minor 1 a.words.now))

pub loop-console-preserved : goal.loop-console-preserved
loop-console-preserved c =
    let l = c.loop-console in
    let i = l.console-index in
    let ws = c.args.words.now in
    let n = length ws / 6 in
    let h : i < n = omega (arith, c.as_chunks.ensures.front_len, c.loop-console-test.true) in
    let x : get_or (get_or c.as_chunks.result.0.now i []) 0 0 ≡ get_or ws (6 * i) 0 = rw c.as_chunks.ensures.front (chunk-at 6 n i 0 ws h (omega arith) ∙ ap (λ j. get_or ws j 0) (let z : 6 * i + 0 ≡ 6 * i = omega arith in z)) in
    let y : get_or (get_or c.as_chunks.result.0.now i []) 1 0 ≡ get_or ws (6 * i + 1) 0 = rw c.as_chunks.ensures.front (chunk-at 6 n i 1 ws h (omega arith)) in
    let w : get_or (get_or c.as_chunks.result.0.now i []) 5 0 ≡ get_or ws (6 * i + 5) 0 = rw c.as_chunks.ensures.front (chunk-at 6 n i 5 ws h (omega arith)) in
    described-console c.args.minor i ws _ (6 * i) refl _ l.invariant (rw (x, y, w) at c.with_console-bits.ensures)

pub returns : goal.returns
returns c =
    let l = c.loop-console in
    let e : l.console-index ≡ length c.args.words.now / 6 = omega (arith, c.as_chunks.ensures.front_len) in
    c.consoles_clear.ensures ∙ l.invariant ∙ rw e
