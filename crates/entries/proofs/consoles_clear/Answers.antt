use Rattle.std.proofs.Common.{◌%◌, ◌^◌, arith, rules, le-ltb, lt-ltb, eq-eqb, ne_eqb}
use Rattle.words.specs.Tests.{both, either}
use Rattle.entries.specs.Entry.{flags_ok}
use Rattle.entries.specs.Fast.{console_clear}
use Rattle.entries.proofs.Fast.{clear_later}
use Rattle.entries.proofs.consoles_clear.Goals as goal

pub returns-then-bits-ne0 : goal.returns-then-bits-ne0
unfolding console_clear flags_ok both
returns-then-bits-ne0 c =
    let b = c.args.bits in
    simp (ne_eqb (b.low % 4096) 0 (search rules))

pub returns-then-bits-ge1099511627776 : goal.returns-then-bits-ge1099511627776
unfolding console_clear flags_ok both
returns-then-bits-ge1099511627776 c =
    let b = c.args.bits in
    simp (eq-eqb (b.low % 4096) 0 (search rules), le-ltb b.high (2 ^ 40) (omega arith))

pub returns-then-minor-gt4 : goal.returns-then-minor-gt4
unfolding console_clear
returns-then-minor-gt4 c =
    let a = c.args in
    clear_later a.minor a.bits (search rules) (omega arith) (omega arith)

pub returns-then-bits-ne0-2 : goal.returns-then-bits-ne0-2
unfolding console_clear flags_ok both either
returns-then-bits-ne0-2 c =
    let a = c.args in
    simp (eq-eqb (a.bits.low % 4096) 0 (search rules), lt-ltb a.bits.high (2 ^ 40) (omega arith), ne_eqb a.bits.flags 0 (search rules), le-ltb 4 a.minor (omega arith))

pub returns : goal.returns
unfolding console_clear flags_ok both either
returns c =
    let b = c.args.bits in
    simp (eq-eqb (b.low % 4096) 0 (search rules), lt-ltb b.high (2 ^ 40) (omega arith), eq-eqb b.flags 0 (search rules))
