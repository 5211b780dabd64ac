use Rattle.std.proofs.Common.{◌+◌, ◌-◌, ◌%◌, ◌^◌, refl, arith}
use Rattle.entries.proofs.Fast.{with-bank}
use Rattle.entries.proofs.with_bank.Goals as goal

pub returns : goal.returns
returns c =
    let a = c.args in
    with-bank a.bits a.base a.size ((a.size + (2 ^ 64 - 1)) % 2 ^ 64) _ (omega arith) (omega arith) (omega arith) (omega arith) refl
