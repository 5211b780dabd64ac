use lib.Pow.{pow_pos}
use lib.Bits.{and_mask, and_le_l}
use borrow.Author.Rules.{rules}
use Rattle.realm_words.proofs.Bits.{unit}
use Rattle.realm_next.proofs.high_bits.Goals as goal

pub overflow_sub-result : goal.overflow_sub-result
overflow_sub-result c = rw (unit c.args.k (search rules)) (pow_pos c.args.k)

pub overflow_sub-result-2 : goal.overflow_sub-result-2
overflow_sub-result-2 c = and_le_l _ _

pub returns : goal.returns
returns c = rw (unit c.args.k (search rules), and_mask c.args.w c.args.k)
