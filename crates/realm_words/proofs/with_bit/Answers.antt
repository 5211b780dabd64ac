use Prim.Native.Nat.{◌%◌}
use lib.Bits.{and_le_l}
use borrow.Author.Rules.{rules}
use Rattle.realm_words.specs.Bits.{with_bit}
use Rattle.realm_words.proofs.Bits.{bit_at, unit, and-bit, with-lt}
use Rattle.realm_words.proofs.with_bit.Goals as goal

pub overflow_sub-result : goal.overflow_sub-result
overflow_sub-result c = and_le_l c.args.w _

pub overflow_add-result : goal.overflow_add-result
unfolding with_bit
overflow_add-result c =
    let a = c.args in
    let k = a.index % 64 in
    rw (unit k (search rules), bit_at c.realm_bit-bit.result k (search rules) (search rules), and-bit a.w k)
    (record { fits = with-lt 64 a.w k c.realm_bit-bit.result (search rules) (search rules) (search rules) })

pub returns : goal.returns
unfolding with_bit
returns c =
    let a = c.args in
    let k = a.index % 64 in
    rw (unit k (search rules), bit_at c.realm_bit-bit.result k (search rules) (search rules), and-bit a.w k, c.realm_bit-bit.ensures.0)
