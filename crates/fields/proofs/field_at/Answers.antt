use Prim.Native.Nat.{◌+◌}
use native.Mathlib.Omega.{arith}
use lib.ListN.{length, get_or}
use borrow.Author.Tests.{lt-ltb, le-ltb, eq-eqb, ne_eqb}
use Rattle.words.specs.Word.{num_at}
use Rattle.fields.specs.Steps.{head_of, head_at}
use borrow.Author.Rules.{rules}
use Rattle.fields.proofs.field_at.Goals as goal

pub returns-then-part-at : goal.returns-then-part-at
unfolding head_at head_of
returns-then-part-at c =
    let a = c.args in simp (lt-ltb (length a.part.now) (a.at + 3 + num_at 2 (a.at + 1) a.part.now) (omega arith))

pub returns-then-part-at-lt-FIELD_HEAD : goal.returns-then-part-at-lt-FIELD_HEAD
unfolding head_at head_of
returns-then-part-at-lt-FIELD_HEAD c =
    let a = c.args in
    simp (lt-ltb (length a.part.now) (a.at + 3 + num_at 2 (a.at + 1) a.part.now) (omega arith))

pub returns-then-part-value : goal.returns-then-part-value
unfolding head_at head_of
returns-then-part-value c =
    let a = c.args in
    simp (lt-ltb (length a.part.now) (a.at + 3 + num_at 2 (a.at + 1) a.part.now) (omega arith))

pub returns-then-tag-ne-TAG_END : goal.returns-then-tag-ne-TAG_END
unfolding head_at head_of
returns-then-tag-ne-TAG_END c =
    let a = c.args in
    simp (
      le-ltb (length a.part.now) (a.at + 3 + num_at 2 (a.at + 1) a.part.now) (omega arith),
      ne_eqb (get_or a.part.now a.at 0) 0 (search rules),
    ) (cc)

pub returns-then-len-ne0 : goal.returns-then-len-ne0
unfolding head_at head_of
returns-then-len-ne0 c =
    let a = c.args in
    simp (
      le-ltb (length a.part.now) (a.at + 3 + num_at 2 (a.at + 1) a.part.now) (omega arith),
      eq-eqb (get_or a.part.now a.at 0) 0 (search rules),
      ne_eqb (num_at 2 (a.at + 1) a.part.now) 0 (λ e. omega arith),
    )

pub returns : goal.returns
unfolding head_at head_of
returns c =
    let a = c.args in
    simp (
      le-ltb (length a.part.now) (a.at + 3 + num_at 2 (a.at + 1) a.part.now) (omega arith),
      eq-eqb (get_or a.part.now a.at 0) 0 (search rules),
      eq-eqb (num_at 2 (a.at + 1) a.part.now) 0 (omega arith),
    )
