use borrow.Author.Tests.{ne_eqb}
use Rattle.signing.specs.Signing.{opcode_of}
use borrow.Author.Rules.{rules}
use Rattle.signing.proofs.OpcodeFromU64.from.Goals as goal

pub returns-in-1 : goal.returns-in-1
unfolding opcode_of
returns-in-1 c = rw c.in-1.is

pub returns-in-2 : goal.returns-in-2
unfolding opcode_of
returns-in-2 c = rw c.in-2.is

pub returns-in-3 : goal.returns-in-3
unfolding opcode_of
returns-in-3 c = rw c.in-3.is

pub returns-in_default : goal.returns-in_default
unfolding opcode_of
returns-in_default c =
    let a = c.args in
    simp (ne_eqb a.n 1 (search rules), ne_eqb a.n 2 (search rules), ne_eqb a.n 3 (search rules))
