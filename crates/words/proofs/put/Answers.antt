use Rattle.std.proofs.Common.{◌≡◌, sym, append_assoc, ap, arith, List, ℕ, take, ◌++◌, length, ◌+◌, ◌-◌}
use lib.Seq.{drop-drop}
use Rattle.words.specs.Word.{splice}
use Rattle.words.proofs.Store.{bytes-in, bytes-out}
use Rattle.words.proofs.put.Goals as goal
use Rattle.words.proofs.put.Goals.{else-at-s-via-then-at-s+else-bytes-s, else-at-s-via-else-at-s}

pub returns-then-bytes-s : goal.returns-then-bytes-s
unfolding splice
returns-then-bytes-s c =
    let a = c.args in
    let n : a.at + length a.bytes.now - a.at ≡ length a.bytes.now = omega arith in
    rw (bytes-in a.at a.bytes.now a.s.now (omega arith), n, c.copy_from_slice.ensures.after, append_assoc)
    (ap (λ (t : List ℕ). take a.at a.s.now ++ (a.bytes.now ++ t)) (drop-drop (length a.bytes.now) a.at a.s.now))

pub returns-else-at-s : goal.returns-else-at-s
returns-else-at-s c =
    let a = c.args in
    elim c.else-at-s.branch [
      | else-at-s-via-then-at-s+else-bytes-s w ↦ sym (bytes-out a.at a.bytes.now a.s.now (omega arith))
      | else-at-s-via-else-at-s w ↦ sym (bytes-out a.at a.bytes.now a.s.now (omega arith))
    ]
