use Rattle.std.proofs.Common.{◌≡◌, ◌∙◌, ◌≤◌, ◌+◌, ◌-◌, ◌*◌, ◌++◌, take, length, sym, ap, refl, arith}
use lib.ListN.{drop, get_or}
use Rattle.words.specs.Word.{le_bytes, splice}
use Rattle.words.proofs.Read.{le_bytes-length, bytes-of_8}
use Rattle.words.proofs.Store.{words-none, words_more, words-all, words-out, length-splice, mid-splice}
use Rattle.words.proofs.put_words.Goals as goal
use Rattle.words.proofs.put_words.Goals.{else-at-s-via-then-at-s+else-words-s, else-at-s-via-else-at-s}

pub loop-i-init : goal.loop-i-init
loop-i-init c = let a = c.args in (refl, words-none a.at a.words.now a.s.now)

pub loop-i-preserved : goal.loop-i-preserved
loop-i-preserved c =
    let a = c.args in
    let l = c.loop-i in
    let fits : a.at + 8 * l.i + 8 ≤ length l.s = omega (arith, l.invariant.0) in
    let n : a.at + 8 * l.i + 8 - (a.at + 8 * l.i) ≡ 8 = omega arith in
    let b = le_bytes 8 (get_or a.words.now l.i 0) in
    let q : c.to_le_bytes.result ≡ b = c.to_le_bytes.ensures ∙ bytes-of_8 (get_or a.words.now l.i 0) in
    let e : take (a.at + 8 * l.i) l.s ++ (b ++ drop 8 (drop (a.at + 8 * l.i) l.s)) ≡ splice (a.at + 8 * l.i) b l.s =
    mid-splice (a.at + 8 * l.i) 8 b l.s (le_bytes-length 8 (get_or a.words.now l.i 0)) in (
      rw (c.copy_from_slice.ensures.after, n, q) (ap length e ∙ length-splice (a.at + 8 * l.i) b l.s (rw le_bytes-length fits) ∙ l.invariant.0),
      rw (c.copy_from_slice.ensures.after, n, q) (e ∙ rw l.invariant.1 (words_more a.at a.words.now l.i a.s.now (omega arith) (omega arith))),
    )

pub returns-after-loop-i : goal.returns-after-loop-i
returns-after-loop-i c =
    let a = c.args in
    let l = c.loop-i in l.invariant.1 ∙ words-all a.at a.words.now a.s.now l.i (omega arith) (omega arith)

pub returns-else-at-s : goal.returns-else-at-s
returns-else-at-s c =
    let a = c.args in
    elim c.else-at-s.branch [
      | else-at-s-via-then-at-s+else-words-s w ↦ sym (words-out a.at a.words.now a.s.now (omega arith))
      | else-at-s-via-else-at-s w ↦ sym (words-out a.at a.words.now a.s.now (omega arith))
    ]
