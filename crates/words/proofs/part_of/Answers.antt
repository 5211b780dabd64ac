use Prim.Native.Nat.{◌+◌, ◌<◌}
use mathlib.Core.Path.{refl, ap}
use lib.ListN.{length}
use native.Mathlib.Nat.{add-sub_cancel_left}
use native.Mathlib.Omega.{arith}
use borrow.Author.Tests.{le-leb, lt-leb}
use Rattle.words.specs.Word.{part, spanned, span_start, on_from}
use Rattle.words.proofs.part_of.Goals as goal
use Rattle.words.proofs.part_of.Goals.{then-s-span-via-then-s-span, then-s-span-via-else-s-span+then-s-span-2}

pub returns-then-s-span : goal.returns-then-s-span
unfolding spanned span_start on_from
returns-then-s-span c =
    let a = c.args in
    let l : length a.s.now < a.span.at + a.span.len =
    elim c.then-s-span.branch [
      | then-s-span-via-then-s-span w ↦ omega arith
      | then-s-span-via-else-s-span+then-s-span-2 w ↦ omega arith
    ] in
    simp (lt-leb (a.span.at + a.span.len) (length a.s.now) l) record { result_value = refl; ref_ptr_value = ap (λ x. (a.s.ref_ptr.0, x)) (omega arith) }

pub returns : goal.returns
unfolding spanned part span_start on_from
returns c =
    let a = c.args in
    simp (le-leb (a.span.at + a.span.len) (length a.s.now) (omega arith), add-sub_cancel_left)
    record { result_value = refl; ref_ptr_value = ap (λ x. (a.s.ref_ptr.0, x)) (omega arith) }
