use native.Mathlib.Omega.{arith}
use borrow.Author.Tests.{eq-eqb, ne_eqb}
use borrow.Author.Rules.{rules}
use Rattle.realm_words.specs.Bits.{realm_bit}
use Rattle.realm_words.proofs.realm_bit.Goals as goal

pub returns-then-byte-eq1 : goal.returns-then-byte-eq1
unfolding realm_bit
returns-then-byte-eq1 c = (simp (eq-eqb c.args.byte 1 (search rules)), omega arith)

pub returns-else-byte-eq1 : goal.returns-else-byte-eq1
unfolding realm_bit
returns-else-byte-eq1 c = (simp (ne_eqb c.args.byte 1 (search rules)), omega arith)
